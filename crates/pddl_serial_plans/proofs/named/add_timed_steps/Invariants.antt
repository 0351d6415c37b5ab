use Rattle.std.proofs.Common.{◌≡◌, [], length, map, take}
use Rattle.pddl_plan.specs.Plans as plans
use Rattle.pddl_plan.specs.Plans.{TimedValue, step_of_names}
use Rattle.pddl_linked_task.specs.LinkedTasks.{task_of_files}
use Rattle.pddl_serial_plans.specs.NewSteps.{picked, at_moments, timed_step}
use Rattle.pddl_serial_plans.proofs.named.add_timed_steps.Given as goal

-- the steps so far, each at its moment
abbrev pub invariant-loop-i : goal.invariant-loop-i
invariant-loop-i g l = record {
  steps : map (λ (s : TimedValue). s) (plans.at_moments l.plan.moments (map step_of_names l.plan.steps)) ≡ map (timed_step (task_of_files l.task)) (at_moments (picked l.steps (take l.i l.order)) (take l.i l.moments));
  timed : length l.plan.moments ≡ length l.plan.steps;
  none : l.plan.names ≡ [];
}
