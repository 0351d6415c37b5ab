use Rattle.pddl_task.proofs.LinkedTasks.{actions_stand_once}
use Rattle.pddl_task.proofs.task_laws.actions_stand_once.Goals as goal

pub returns : goal.returns
returns c = actions_stand_once
