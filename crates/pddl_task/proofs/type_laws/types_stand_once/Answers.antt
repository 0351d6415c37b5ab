use Rattle.pddl_task.proofs.LinkedTasks.{types_stand_once}
use Rattle.pddl_task.proofs.type_laws.types_stand_once.Goals as goal

pub returns : goal.returns
returns c = types_stand_once
