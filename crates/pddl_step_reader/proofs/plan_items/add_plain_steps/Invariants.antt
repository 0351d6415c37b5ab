use Rattle.std.proofs.Common.{◌≡◌, [], drop}
use Rattle.pddl_items.specs.Items.{items_view}
use Rattle.pddl_step_reader.specs.Inner.PlanReading.{plain_from}
use Rattle.pddl_plan.specs.Plans.{steps_built}
use Rattle.pddl_step_reader.proofs.plan_items.add_plain_steps.Given as goal

-- the steps so far, and the items that are left, give what all items give
abbrev pub invariant-loop-index : goal.invariant-loop-index
invariant-loop-index g l = record {
  read : plain_from (steps_built l.plan) (items_view (drop l.index l.items)) ≡ plain_from (steps_built l.fn.plan) (items_view l.items);
  plain : l.plan.moments ≡ [];
  none : l.plan.names ≡ [];
}
