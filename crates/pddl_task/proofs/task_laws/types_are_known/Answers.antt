use Rattle.pddl_task.proofs.LinkedTasks.{types_are_known}
use Rattle.pddl_task.proofs.task_laws.types_are_known.Goals as goal

pub returns : goal.returns
returns c = types_are_known
