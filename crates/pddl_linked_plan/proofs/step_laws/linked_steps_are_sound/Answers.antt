use Rattle.pddl_linked_plan.proofs.SoundSteps.{steps_are_sound}
use Rattle.pddl_linked_plan.proofs.step_laws.linked_steps_are_sound.Goals as goal

pub returns : goal.returns
returns c = steps_are_sound
