use Rattle.pddl_task.proofs.KnownAtoms.{initial_is_known}
use Rattle.pddl_task.proofs.task_laws.initial_is_known.Goals as goal

pub returns : goal.returns
returns c = initial_is_known
