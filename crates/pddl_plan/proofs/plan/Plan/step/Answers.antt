use Rattle.std.proofs.Common.{length, sym, ap, ◌∙◌, arith}
use Rattle.std.specs.Prelude.{slice_get}
use Rattle.std.proofs.lemmas.List.{length-map}
use Rattle.pddl_plan.specs.Plans.{step_of_names}
use Rattle.pddl_plan.proofs.BuiltPlans.{steps_built}
use Rattle.pddl_plan.proofs.plan.Plan.step.Goals as goal

pub step-requires : goal.step-requires
step-requires g c =
    let parts = c.args.self.now.parts in
    omega (arith, c.requires, ap length (steps_built parts c.len-built.ensures.built), length-map parts.steps step_of_names)

pub returns : goal.returns
returns g c = c.step.ensures ∙ ap (λ ss. slice_get ss c.args.number) (sym (steps_built c.args.self.now.parts c.len-built.ensures.built))
