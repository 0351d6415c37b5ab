use Rattle.pddl_task.proofs.InitialStates.{costs_are_single}
use Rattle.pddl_task.proofs.task_laws.costs_are_single.Goals as goal

pub returns : goal.returns
returns c = costs_are_single
