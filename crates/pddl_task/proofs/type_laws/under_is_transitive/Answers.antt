use Rattle.pddl_task.proofs.Subtypes.{under_through}
use Rattle.pddl_task.proofs.type_laws.under_is_transitive.Goals as goal

pub returns : goal.returns
returns c = under_through
