use Rattle.pddl_task.proofs.InitialStates.{no_fact_fails}
use Rattle.pddl_task.proofs.task_laws.no_fact_fails.Goals as goal

pub returns : goal.returns
returns c = no_fact_fails
