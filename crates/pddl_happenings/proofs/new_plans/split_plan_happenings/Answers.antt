use Rattle.pddl_happenings.proofs.SplitMoments.{split_timed}
use Rattle.pddl_happenings.proofs.new_plans.split_plan_happenings.Goals as goal

pub returns : goal.returns
returns c = λ hs gs split. split_timed gs split.none_empty
