use Rattle.std.proofs.Common.{refl}
use Rattle.pddl_problem.specs.Inits.{init_view}
use Rattle.pddl_file_layout.specs.ProblemLayout.{is_init}
use Rattle.pddl_file_layout.specs.Inner.Texts.{init_text}
use Rattle.pddl_file_layout.proofs.Printed.{spaced_on, passes_on, spaced_whole, whole_passes, puts_nothing}
use Rattle.pddl_file_layout.proofs.problem.put_init.Goals as goal

pub loop-item-preserved : goal.loop-item-preserved
loop-item-preserved g c =
    let l = c.loop-item in
    let lt = c.loop-item-test.true in
    record {
      printed = spaced_on init_view init_text c.args.items.now l.item-index c.item-item.result lt c.item-item.is l.invariant.printed c.put.ensures c.put_init_item.ensures.printed;
      good = passes_on init_view is_init c.args.items.now l.item-index c.item-item.result lt c.item-item.is l.invariant.good c.put_init_item.ensures.good;
    }

pub returns-clause-printed : goal.returns-clause-printed
returns-clause-printed g c = spaced_whole init_view init_text c.args.items.now c.loop-item.item-index c.loop-item-test.false c.loop-item.invariant.printed

pub returns-clause-good : goal.returns-clause-good
returns-clause-good g c = whole_passes init_view is_init c.args.items.now c.loop-item.item-index c.loop-item-test.false c.loop-item.invariant.good

pub loop-item-init : goal.loop-item-init
loop-item-init g c = record { printed = puts_nothing _ _ _; good = refl }
