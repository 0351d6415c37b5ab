use Rattle.pddl_task.proofs.LinkedTasks.{costs_are_whole}
use Rattle.pddl_task.proofs.task_laws.costs_are_whole.Goals as goal

pub returns : goal.returns
returns c = costs_are_whole
