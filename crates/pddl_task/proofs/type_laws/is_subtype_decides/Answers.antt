use Rattle.pddl_task.proofs.Subtypes.{is_subtype_decides}
use Rattle.pddl_task.proofs.type_laws.is_subtype_decides.Goals as goal

pub returns : goal.returns
returns c = is_subtype_decides
