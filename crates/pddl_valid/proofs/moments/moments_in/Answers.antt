use Rattle.std.proofs.Common.{rules, ◌≡◌, [], ◌∷◌, ◌++◌, take, sym, ap, ◌∙◌}
use Rattle.pddl_linked_plan.specs.StepParts.{lent_step}
use Rattle.pddl_plan_steps.specs.AcceptedPlans.{moments_in}
use Rattle.pddl_plan_steps.proofs.OnlyHappenings.{moment_more}
use Rattle.pddl_valid.proofs.moments.moments_in.Goals as goal

pub loop-k-preserved : goal.loop-k-preserved
loop-k-preserved g c =
    let steps = c.args.steps.now in
    let m = c.moment_of.result in
    let pushed : c.push.new.self.items ≡ c.loop-k.moments.items ++ m ∷ [] = search rules in
    pushed ∙ (ap (λ l. l ++ m ∷ []) c.loop-k.invariant ∙ (ap (λ n. take c.loop-k.k (moments_in steps) ++ n ∷ []) c.moment_of.ensures ∙ sym (moment_more steps c.loop-k.k (lent_step c.step.result) (sym c.step.ensures))))
