use Rattle.pddl_plan_steps.proofs.PlanSteps.{start_as_named}
use Rattle.pddl_plan_steps.proofs.laws.plans_start_as_named.Goals as goal

pub returns : goal.returns
returns c = start_as_named
