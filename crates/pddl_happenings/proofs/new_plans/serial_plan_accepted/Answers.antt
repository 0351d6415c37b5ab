use Rattle.pddl_happenings.proofs.NewPlans.{serial_plan}
use Rattle.pddl_happenings.proofs.new_plans.serial_plan_accepted.Goals as goal

pub returns : goal.returns
returns g c = serial_plan
