use Rattle.pddl_task.proofs.TypeCycles.{parent_above}
use Rattle.pddl_task.proofs.type_laws.parents_are_above.Goals as goal

pub returns : goal.returns
returns c = parent_above
