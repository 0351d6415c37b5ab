use Rattle.std.proofs.Common.{sym, ◌∙◌}
use Rattle.pddl_plan.proofs.BuiltPlans.{built_moment}
use Rattle.pddl_plan.proofs.plan.Plan.moment.Goals as goal

pub returns : goal.returns
returns g c = c.moment.ensures ∙ sym (built_moment c.args.self.now.parts c.len-built.ensures.built c.args.number)
