use Rattle.pddl_plan_reader.proofs.PlanTextLaws as laws
use Rattle.pddl_plan_reader.proofs.plan_reader.one_plan.Goals as goal

pub returns : goal.returns
returns c = laws.one_plan
