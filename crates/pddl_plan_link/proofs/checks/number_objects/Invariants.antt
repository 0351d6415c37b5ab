use Rattle.pddl_task.specs.Tasks.{object_names}
use Rattle.pddl_linked_task.specs.LinkedTasks.{task_of_files}
use Rattle.pddl_linked_plan.proofs.NumberedObjects.{AreNumbered}
use Rattle.pddl_plan_link.proofs.checks.number_objects.Given as goal

-- the objects so far are known, and these are their numbers
abbrev pub invariant-loop-place : goal.invariant-loop-place
invariant-loop-place g l = AreNumbered (object_names (task_of_files l.task)) l.step.objects l.place l.numbers.items
