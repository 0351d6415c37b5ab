use Rattle.pddl_task.proofs.KnownAtoms.{costs_are_known}
use Rattle.pddl_task.proofs.task_laws.costs_are_known.Goals as goal

pub returns : goal.returns
returns c = costs_are_known
