use Rattle.pddl_task.proofs.LinkedTasks.{objects_have_one_type}
use Rattle.pddl_task.proofs.task_laws.objects_have_one_type.Goals as goal

pub returns : goal.returns
returns c = objects_have_one_type
