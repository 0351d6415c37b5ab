use Rattle.pddl_task.proofs.LowestFault.{linked_is_good}
use Rattle.pddl_task.proofs.fault_laws.linked_domain_is_good.Goals as goal

pub returns : goal.returns
returns c = linked_is_good
