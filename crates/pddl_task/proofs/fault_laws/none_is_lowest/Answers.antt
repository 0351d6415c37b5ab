use Rattle.pddl_task.proofs.LowestFault.{none_is_lowest}
use Rattle.pddl_task.proofs.fault_laws.none_is_lowest.Goals as goal

pub returns : goal.returns
returns c = none_is_lowest
