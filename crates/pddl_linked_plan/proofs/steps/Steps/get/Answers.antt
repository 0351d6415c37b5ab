use Rattle.std.proofs.Common.{map, ap, ◌∙◌}
use Rattle.std.specs.Prelude.{Some, slice_get}
use Rattle.pddl_linked_plan.specs.StepParts.{step_in}
use Rattle.pddl_linked_plan.proofs.HeldSteps.{step_at}
use Rattle.pddl_linked_plan.proofs.steps.Steps.get.Goals as goal

pub returns-in-Some : goal.returns-in-Some
returns-in-Some g c =
    let objects = c.self.inside.objects.items in
    let part = c.in-Some.part.now in
    ap (λ xs. Some (step_in xs part)) c.deref-in-Some.ensures.value
    ∙ (step_at objects c.deref.result.now c.args.number part c.in-Some.ensures.lookup.3.0 c.in-Some.ensures.lookup.1
    ∙ (ap (λ ps. slice_get (map (step_in objects) ps) c.args.number) c.deref.ensures.value ∙ ap (λ steps. slice_get steps c.args.number) c.self.view_is))
