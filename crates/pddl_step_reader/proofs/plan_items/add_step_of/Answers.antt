use Rattle.std.proofs.Common.{◌<◌, length, subst, arith}
use Rattle.std.specs.Prelude.{IfOk}
use Rattle.std.proofs.lemmas.List.{length-map}
use Rattle.pddl_items.specs.Items.{item_view, items_view}
use Rattle.pddl_plan.specs.Building.{AddsNames}
use Rattle.pddl_step_reader.proofs.PlanSteps.{step_names}
use Rattle.pddl_step_reader.proofs.plan_items.add_step_of.Goals as goal

pub returns : goal.returns
returns g c =
    let items = c.args.items.now in
    let some : 0 < length (items_view items) = omega (arith, c.in-len1-up.len_at_least, length-map items item_view) in
    subst (λ o. IfOk c.add_names.result (λ is. AddsNames is o c.args.plan.now c.add_names.new.plan)) (step_names (items_view items) some) c.add_names.ensures
