use Rattle.pddl_text.proofs.FaultsBehind.{fault_behind}
use Rattle.pddl_text.proofs.nesting.list_fault_behind.Goals as goal

pub returns : goal.returns
returns c = λ done words items fault form stands. fault_behind done items form words fault stands
