use Rattle.pddl_task.proofs.LowestFault.{first_is_lowest}
use Rattle.pddl_task.proofs.fault_laws.first_is_lowest.Goals as goal

pub returns : goal.returns
returns c = first_is_lowest
