use Rattle.std.proofs.Common.{length, ap, arith}
use Rattle.std.proofs.lemmas.List.{length-map}
use Rattle.pddl_plan.specs.Plans.{step_of_names}
use Rattle.pddl_plan.proofs.BuiltPlans.{steps_built}
use Rattle.pddl_plan.proofs.plan.Plan.len.Goals as goal

pub returns-clause-value : goal.returns-clause-value
returns-clause-value g c =
    let parts = c.args.self.now.parts in
    omega (arith, c.len.ensures.value, ap length (steps_built parts c.len.ensures.built), length-map parts.steps step_of_names)
