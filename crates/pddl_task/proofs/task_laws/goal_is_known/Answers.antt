use Rattle.pddl_task.proofs.KnownAtoms.{goal_is_known}
use Rattle.pddl_task.proofs.task_laws.goal_is_known.Goals as goal

pub returns : goal.returns
returns c = goal_is_known
