use Rattle.std.proofs.Common.{refl}
use Rattle.pddl_formula.specs.TypedLists.{typed_view}
use Rattle.pddl_file_layout.specs.FormulaValues.{is_typed}
use Rattle.pddl_file_layout.specs.Inner.Texts.{typed_text}
use Rattle.pddl_file_layout.proofs.Printed.{spaced_on, passes_on, spaced_whole, whole_passes, puts_nothing}
use Rattle.pddl_file_layout.proofs.formula.put_typed_list.Goals as goal

pub loop-item-preserved : goal.loop-item-preserved
loop-item-preserved g c =
    let l = c.loop-item in
    let lt = c.loop-item-test.true in
    record {
      printed = spaced_on typed_view (typed_text c.args.sign.now) c.args.items.now l.item-index c.item-item.result lt c.item-item.is l.invariant.printed c.put.ensures c.put_typed.ensures.printed;
      good = passes_on typed_view is_typed c.args.items.now l.item-index c.item-item.result lt c.item-item.is l.invariant.good c.put_typed.ensures.good;
    }

pub returns-clause-printed : goal.returns-clause-printed
returns-clause-printed g c = spaced_whole typed_view (typed_text c.args.sign.now) c.args.items.now c.loop-item.item-index c.loop-item-test.false c.loop-item.invariant.printed

pub returns-clause-good : goal.returns-clause-good
returns-clause-good g c = whole_passes typed_view is_typed c.args.items.now c.loop-item.item-index c.loop-item-test.false c.loop-item.invariant.good

pub loop-item-init : goal.loop-item-init
loop-item-init g c = record { printed = puts_nothing _ _ _; good = refl }
