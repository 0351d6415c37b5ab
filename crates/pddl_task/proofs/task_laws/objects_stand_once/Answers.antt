use Rattle.pddl_task.proofs.LinkedTasks.{objects_stand_once}
use Rattle.pddl_task.proofs.task_laws.objects_stand_once.Goals as goal

pub returns : goal.returns
returns c = objects_stand_once
