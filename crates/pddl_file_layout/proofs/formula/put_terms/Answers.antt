use Rattle.std.proofs.Common.{refl}
use Rattle.pddl_formula.specs.Terms.{term_view}
use Rattle.pddl_file_layout.specs.FormulaValues.{is_term}
use Rattle.pddl_file_layout.specs.Inner.Texts.{term_text}
use Rattle.pddl_file_layout.proofs.Printed.{spaced_on, passes_on, spaced_whole, whole_passes, puts_nothing}
use Rattle.pddl_file_layout.proofs.formula.put_terms.Goals as goal

pub loop-term-preserved : goal.loop-term-preserved
loop-term-preserved g c =
    let l = c.loop-term in
    let lt = c.loop-term-test.true in
    record {
      printed = spaced_on term_view term_text c.args.terms.now l.term-index c.term-item.result lt c.term-item.is l.invariant.printed c.put.ensures c.put_term.ensures.printed;
      good = passes_on term_view is_term c.args.terms.now l.term-index c.term-item.result lt c.term-item.is l.invariant.good c.put_term.ensures.good;
    }

pub returns-clause-printed : goal.returns-clause-printed
returns-clause-printed g c = spaced_whole term_view term_text c.args.terms.now c.loop-term.term-index c.loop-term-test.false c.loop-term.invariant.printed

pub returns-clause-good : goal.returns-clause-good
returns-clause-good g c = whole_passes term_view is_term c.args.terms.now c.loop-term.term-index c.loop-term-test.false c.loop-term.invariant.good

pub loop-term-init : goal.loop-term-init
loop-term-init g c = record { printed = puts_nothing _ _ _; good = refl }
