use Rattle.pddl_task.proofs.InitialStates.{total_starts_at_zero}
use Rattle.pddl_task.proofs.task_laws.total_starts_at_zero.Goals as goal

pub returns : goal.returns
returns c = total_starts_at_zero
