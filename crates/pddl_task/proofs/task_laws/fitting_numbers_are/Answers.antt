use Rattle.pddl_task.proofs.Numbers.{fitting_numbers_are}
use Rattle.pddl_task.proofs.task_laws.fitting_numbers_are.Goals as goal

pub returns : goal.returns
returns c = fitting_numbers_are
