use Rattle.pddl_plan.proofs.GotNames.{name_got}
use Rattle.pddl_plan.proofs.plan_builder.PlanBuilder.push_name.Goals as goal

pub returns-clause-added : goal.returns-clause-added
returns-clause-added g c =
    name_got c.in_ok-push_word.field-0 c.args.name.now c.as_bytes.result.now c.args.self.now c.push_word.new.self c.as_bytes.ensures.value c.as_bytes.ensures.name c.in_ok-push_word.ensures.added
