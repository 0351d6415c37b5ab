use Rattle.pddl_task.specs.Tasks.{object_names}
use Rattle.pddl_linked_task.specs.LinkedTasks.{task_of_files}
use Rattle.pddl_linked_plan.proofs.InitialAtoms.{AreNumbers}
use Rattle.pddl_linked_plan.proofs.initial.numbered.Given as goal

-- the objects up to a place have these numbers, and the others are known
abbrev pub invariant-loop-i : goal.invariant-loop-i
invariant-loop-i g l = AreNumbers (object_names (task_of_files l.task)) l.fact.objects l.i l.args.items
