use Rattle.std.proofs.Common.{◌∙◌, length, ap, sym, arith}
use Rattle.std.proofs.lemmas.List.{length-map}
use Rattle.pddl_linked_plan.specs.StepParts.{step_in}
use Rattle.pddl_linked_plan.proofs.steps.Steps.len.Goals as goal

pub returns : goal.returns
returns g c =
    let as_many = sym (length-map c.self.inside.parts.items (step_in c.self.inside.objects.items)) ∙ ap length c.self.view_is in
    omega (arith, as_many)
