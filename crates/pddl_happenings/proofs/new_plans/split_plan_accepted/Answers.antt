use Rattle.pddl_happenings.proofs.NewPlans.{split_plan}
use Rattle.pddl_happenings.proofs.new_plans.split_plan_accepted.Goals as goal

pub returns : goal.returns
returns g c = split_plan
