use Rattle.pddl_task.proofs.KnownAtoms.{steps_are_known}
use Rattle.pddl_task.proofs.task_laws.steps_are_known.Goals as goal

pub returns : goal.returns
returns c = steps_are_known
