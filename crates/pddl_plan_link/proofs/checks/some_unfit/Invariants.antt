use Rattle.std.proofs.Common.{◌≡◌, Some}
use Rattle.std.specs.List.{slice_get}
use Rattle.pddl_domain.specs.Actions.{ActionValue}
use Rattle.pddl_linked_task.specs.LinkedTasks.{task_of_files}
use Rattle.pddl_linked_plan.proofs.NumberedObjects.{IsLeft}
use Rattle.pddl_plan_link.proofs.checks.some_unfit.Given as goal

-- some of all does not fit where some of those that are left does not
abbrev pub invariant-loop-parameter : goal.invariant-loop-parameter
invariant-loop-parameter g l = (a : ActionValue) → slice_get (task_of_files l.task).actions l.action ≡ Some a → IsLeft (task_of_files l.task) l.numbers a.parameters l.parameter
