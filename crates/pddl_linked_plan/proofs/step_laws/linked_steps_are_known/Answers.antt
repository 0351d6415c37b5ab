use Rattle.pddl_linked_plan.proofs.KnownSteps.{step_is_known}
use Rattle.pddl_linked_plan.proofs.step_laws.linked_steps_are_known.Goals as goal

pub returns : goal.returns
returns c = step_is_known
