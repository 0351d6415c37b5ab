use Rattle.pddl_plan_steps.proofs.PlanSteps.{plan_as_named}
use Rattle.pddl_plan_steps.proofs.laws.plans_do_as_named.Goals as goal

pub returns : goal.returns
returns c = plan_as_named
