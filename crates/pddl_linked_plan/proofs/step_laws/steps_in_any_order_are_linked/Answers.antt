use Rattle.pddl_linked_plan.proofs.SoundSteps.{others_are_linked}
use Rattle.pddl_linked_plan.proofs.step_laws.steps_in_any_order_are_linked.Goals as goal

pub returns : goal.returns
returns c = others_are_linked
