use Rattle.std.proofs.Common.{◌≡◌, ◌++◌, map, take}
use Rattle.pddl_layout.specs.PlanLayout.{spaced}
use Rattle.pddl_linked_task.specs.LinkedTasks.{task_of_files}
use Rattle.pddl_linked_plan.specs.LinkedLaws.{name_at}
use Rattle.pddl_task.specs.Tasks.{object_names}
use Rattle.pddl_plan_lines.proofs.lines.push_objects.Given as goal

-- the names so far are added
abbrev pub invariant-loop-object : goal.invariant-loop-object
invariant-loop-object g l = l.line.items ≡ l.initial.line.items ++ spaced (map (name_at (object_names (task_of_files l.task))) (take l.object-index l.objects))
