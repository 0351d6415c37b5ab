use Rattle.pddl_task.specs.Tasks.{task_of}
use Rattle.pddl_task.proofs.KnownAtoms.{steps_are_known}
use Rattle.pddl_plan_steps.proofs.NamedSteps.{does_as_named}
use Rattle.pddl_plan_steps.proofs.laws.steps_do_as_named.Goals as goal

pub returns : goal.returns
returns c d p linked a has os as_many known = does_as_named (task_of d p) a os (steps_are_known d p linked a has os as_many known)
