use Rattle.pddl_task.proofs.Subtypes.{fitting_decides}
use Rattle.pddl_task.proofs.type_laws.fitting_decides.Goals as goal

pub returns : goal.returns
returns c = fitting_decides
