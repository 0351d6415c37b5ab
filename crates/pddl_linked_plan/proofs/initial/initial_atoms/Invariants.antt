use Rattle.pddl_linked_task.specs.LinkedTasks.{task_of_files}
use Rattle.pddl_linked_plan.proofs.InitialAtoms.{AreFacts}
use Rattle.pddl_linked_plan.proofs.initial.initial_atoms.Given as goal

-- the facts that hold among the items up to a place are listed, and the others are known
abbrev pub invariant-loop-item : goal.invariant-loop-item
invariant-loop-item g l = AreFacts (task_of_files l.task) l.init l.item-index l.atoms.items
