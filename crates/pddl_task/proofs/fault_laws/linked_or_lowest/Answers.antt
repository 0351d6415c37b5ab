use Rattle.pddl_task.proofs.LowestFault.{lowest_or_none}
use Rattle.pddl_task.proofs.fault_laws.linked_or_lowest.Goals as goal

pub returns : goal.returns
returns c = lowest_or_none
