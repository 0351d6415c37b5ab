use Rattle.std.proofs.Common.{◌≡◌, [], map, take}
use Rattle.pddl_plan.specs.Plans.{step_of_names}
use Rattle.pddl_linked_task.specs.LinkedTasks.{task_of_files}
use Rattle.pddl_linked_plan.specs.LinkedLaws.{named_step}
use Rattle.pddl_serial_plans.specs.NewSteps.{picked}
use Rattle.pddl_serial_plans.proofs.named.add_steps.Given as goal

-- the steps so far
abbrev pub invariant-loop-number : goal.invariant-loop-number
invariant-loop-number g l = record {
  steps : map step_of_names l.plan.steps ≡ map (named_step (task_of_files l.task)) (picked l.steps (take l.number-index l.order));
  plain : l.plan.moments ≡ [];
  none : l.plan.names ≡ [];
}
