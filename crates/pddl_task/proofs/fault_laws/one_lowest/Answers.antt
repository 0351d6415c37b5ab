use Rattle.pddl_task.proofs.LowestFault.{one_lowest}
use Rattle.pddl_task.proofs.fault_laws.one_lowest.Goals as goal

pub returns : goal.returns
returns c = one_lowest
