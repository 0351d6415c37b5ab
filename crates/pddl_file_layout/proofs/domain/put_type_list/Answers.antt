use Rattle.std.proofs.Common.{ap, sym, ◌∙◌, refl}
use Rattle.pddl_domain.specs.Declarations.{type_view}
use Rattle.pddl_formula.specs.Reserved.{is_type_name}
use Rattle.pddl_file_layout.specs.DomainLayout.{is_declared_type}
use Rattle.pddl_file_layout.specs.Inner.Texts.{declared_type_text}
use Rattle.pddl_file_layout.proofs.Printed.{puts_on, puts_as, spaced_on, passes_on, spaced_whole, whole_passes, puts_nothing}
use Rattle.pddl_file_layout.proofs.SectionTexts.{both}
use Rattle.pddl_file_layout.proofs.domain.put_type_list.Goals as goal

pub loop-declared-preserved : goal.loop-declared-preserved
loop-declared-preserved g c =
    let l = c.loop-declared in
    let lt = c.loop-declared-test.true in
    let x = c.declared-item.result in
    record {
      printed = spaced_on type_view declared_type_text c.args.types.now l.declared-index x lt c.declared-item.is l.invariant.printed c.put.ensures
          (puts_on (puts_as c.as_bytes.ensures.value c.put-in-loop-declared.ensures) (puts_on c.put-in-loop-declared-2.ensures (puts_as (c.as_bytes-in-loop-declared.ensures.value ∙ c.deref.ensures) c.put-in-loop-declared-3.ensures)));
      good = passes_on type_view is_declared_type c.args.types.now l.declared-index x lt c.declared-item.is l.invariant.good
          (both (is_type_name x.name) (is_type_name x.parent.value) c.as_bytes.ensures.type_name (sym (ap is_type_name c.deref.ensures) ∙ c.as_bytes-in-loop-declared.ensures.type_name));
    }

pub returns-clause-printed : goal.returns-clause-printed
returns-clause-printed g c = spaced_whole type_view declared_type_text c.args.types.now c.loop-declared.declared-index c.loop-declared-test.false c.loop-declared.invariant.printed

pub returns-clause-good : goal.returns-clause-good
returns-clause-good g c = whole_passes type_view is_declared_type c.args.types.now c.loop-declared.declared-index c.loop-declared-test.false c.loop-declared.invariant.good

pub loop-declared-init : goal.loop-declared-init
loop-declared-init g c = record { printed = puts_nothing _ _ _; good = refl }
