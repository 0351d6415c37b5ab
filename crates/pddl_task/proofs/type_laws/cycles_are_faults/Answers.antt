use Rattle.pddl_task.proofs.TypeCycles.{cycle_is_fault}
use Rattle.pddl_task.proofs.type_laws.cycles_are_faults.Goals as goal

pub returns : goal.returns
returns c = cycle_is_fault
