use Rattle.pddl_task.proofs.LinkedTasks.{functions_stand_once}
use Rattle.pddl_task.proofs.task_laws.functions_stand_once.Goals as goal

pub returns : goal.returns
returns c = functions_stand_once
