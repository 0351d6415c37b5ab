use Rattle.pddl_task.proofs.KnownAtoms.{fitting_are_objects}
use Rattle.pddl_task.proofs.task_laws.fitting_are_objects.Goals as goal

pub returns : goal.returns
returns c = fitting_are_objects
