use Rattle.pddl_linked_plan.proofs.SoundSteps.{steps_have_names}
use Rattle.pddl_linked_plan.proofs.step_laws.linked_steps_have_names.Goals as goal

pub returns : goal.returns
returns c = steps_have_names
