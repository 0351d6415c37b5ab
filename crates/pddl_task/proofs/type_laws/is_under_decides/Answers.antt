use Rattle.pddl_task.proofs.Subtypes.{is_under_decides}
use Rattle.pddl_task.proofs.type_laws.is_under_decides.Goals as goal

pub returns : goal.returns
returns c = is_under_decides
