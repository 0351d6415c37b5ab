use Rattle.std.proofs.Common.{◌≡◌, ◌+◌, ◌-◌, ◌*◌, [], drop, length}
use Rattle.pddl_items.specs.Items.{items_view}
use Rattle.pddl_step_reader.specs.Inner.PlanReading.{timed_from}
use Rattle.pddl_plan.specs.Plans.{timed_built}
use Rattle.pddl_step_reader.proofs.plan_items.add_timed_steps.Given as goal

-- the steps so far, and the items that are left, give what all items give; a step has three items
abbrev pub invariant-loop-at : goal.invariant-loop-at
invariant-loop-at g l = record {
  read : timed_from (timed_built l.plan) (items_view (drop l.at l.items)) ≡ timed_from (timed_built l.fn.plan) (items_view l.items);
  three : l.at + 3 * length l.fn.plan.steps ≡ 3 * length l.plan.steps;
  timed : length l.plan.moments ≡ length l.plan.steps;
  none : l.plan.names ≡ [];
}

abbrev pub decreases-loop-at : goal.decreases-loop-at
decreases-loop-at g l = length l.items - l.at
