use Rattle.std.proofs.Common.{◌≡◌, map, take}
use Rattle.pddl_task.specs.Tasks.{object_names}
use Rattle.pddl_linked_task.specs.LinkedTasks.{task_of_files}
use Rattle.pddl_linked_plan.specs.LinkedLaws.{name_at}
use Rattle.pddl_plan.specs.Building.{with_names}
use Rattle.pddl_serial_plans.proofs.named.add_objects.Given as goal

-- the names so far
abbrev pub invariant-loop-number : goal.invariant-loop-number
invariant-loop-number g l = l.plan ≡ with_names l.initial.plan (map (name_at (object_names (task_of_files l.task))) (take l.number-index l.numbers))
