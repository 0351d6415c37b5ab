use Rattle.std.proofs.Common.{length, ap, sym, ◌∙◌, arith}
use Rattle.std.specs.Prelude.{Some, slice_get}
use Rattle.std.proofs.lemmas.List.{length-map}
use Rattle.pddl_linked_plan.specs.StepParts.{step_in}
use Rattle.pddl_linked_plan.proofs.HeldSteps.{step_at}
use Rattle.pddl_linked_plan.proofs.steps.Steps.step.Goals as goal

pub returns : goal.returns
returns g c =
    let objects = c.self.inside.objects.items in
    let parts = c.self.inside.parts.items in
    let as_many = sym (length-map parts (step_in objects)) ∙ ap length c.self.view_is in
    ap (λ xs. Some (step_in xs c.index-part.result.now)) c.deref.ensures.value
    ∙ (step_at objects parts c.args.number c.index-part.result.now (omega (arith, as_many, c.requires)) c.index-part.ensures ∙ ap (λ steps. slice_get steps c.args.number) c.self.view_is)
