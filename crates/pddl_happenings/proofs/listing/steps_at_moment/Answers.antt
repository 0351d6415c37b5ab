use Rattle.pddl_happenings.proofs.AtMoment.{steps_rise, steps_have}
use Rattle.pddl_happenings.proofs.listing.steps_at_moment.Goals as goal

pub returns : goal.returns
returns c = record { rising = steps_rise; has = steps_have }
