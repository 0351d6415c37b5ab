use Rattle.std.proofs.Common.{refl}
use Rattle.pddl_domain.specs.Declarations.{predicate_view}
use Rattle.pddl_file_layout.specs.DomainLayout.{is_declared_predicate}
use Rattle.pddl_file_layout.specs.Inner.Texts.{signature_text}
use Rattle.pddl_file_layout.proofs.Printed.{spaced_on, passes_on, spaced_whole, whole_passes, puts_nothing}
use Rattle.pddl_file_layout.proofs.domain.put_predicate_list.Goals as goal

pub loop-declared-preserved : goal.loop-declared-preserved
loop-declared-preserved g c =
    let l = c.loop-declared in
    let lt = c.loop-declared-test.true in
    record {
      printed = spaced_on predicate_view signature_text c.args.predicates.now l.declared-index c.declared-item.result lt c.declared-item.is l.invariant.printed c.put.ensures c.put_predicate.ensures.printed;
      good = passes_on predicate_view is_declared_predicate c.args.predicates.now l.declared-index c.declared-item.result lt c.declared-item.is l.invariant.good c.put_predicate.ensures.good;
    }

pub returns-clause-printed : goal.returns-clause-printed
returns-clause-printed g c = spaced_whole predicate_view signature_text c.args.predicates.now c.loop-declared.declared-index c.loop-declared-test.false c.loop-declared.invariant.printed

pub returns-clause-good : goal.returns-clause-good
returns-clause-good g c = whole_passes predicate_view is_declared_predicate c.args.predicates.now c.loop-declared.declared-index c.loop-declared-test.false c.loop-declared.invariant.good

pub loop-declared-init : goal.loop-declared-init
loop-declared-init g c = record { printed = puts_nothing _ _ _; good = refl }
