use Rattle.pddl_task.proofs.LinkedTasks.{predicates_stand_once}
use Rattle.pddl_task.proofs.task_laws.predicates_stand_once.Goals as goal

pub returns : goal.returns
returns c = predicates_stand_once
