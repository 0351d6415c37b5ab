use Rattle.pddl_task.proofs.LowestFault.{domain_fault_stands}
use Rattle.pddl_task.proofs.fault_laws.domain_faults_are_faults.Goals as goal

pub returns : goal.returns
returns c = domain_fault_stands
