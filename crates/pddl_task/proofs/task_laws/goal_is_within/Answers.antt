use Rattle.pddl_task.proofs.LinkedTasks.{goal_is_within}
use Rattle.pddl_task.proofs.task_laws.goal_is_within.Goals as goal

pub returns : goal.returns
returns c = goal_is_within
