use Rattle.pddl_task.proofs.Subtypes.{is_cyclic_decides}
use Rattle.pddl_task.proofs.type_laws.is_cyclic_decides.Goals as goal

pub returns : goal.returns
returns c = is_cyclic_decides
