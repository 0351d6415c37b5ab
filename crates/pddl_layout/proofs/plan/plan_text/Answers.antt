use Rattle.std.proofs.Common.{◌≡◌, ℕ, List, ◌++◌, length, sym, ap, subst, ◌∙◌, arith}
use Rattle.std.specs.Prelude.{Some}
use Rattle.pddl_plan.specs.Plans.{plan_view}
use Rattle.pddl_step_reader.specs.PlanTexts.{SpellsPlan}
use Rattle.pddl_layout.specs.PlanLayout.{plan_text}
use Rattle.pddl_layout.proofs.PlanPieces.{plan_reads_back}
use Rattle.pddl_layout.proofs.plan.plan_text.Goals as goal

same : (xs ys : List ℕ) → Some xs ≡ Some ys → xs ≡ ys
same xs ys e = cc (e)

pub returns-in-Ok-clause-reads_back : goal.returns-in-Ok-clause-reads_back
returns-in-Ok-clause-reads_back g c = λ short.
    let plan = plan_view c.args.plan.now in
    let begun = same c.new-out.result.inner.items c.new.result.items c.new-out.ensures.contents ∙ c.new.ensures.items in
    let text : c.into_inner.result.items ≡ plan_text plan =
    same c.into_inner.result.items c.put_plan.new.out.inner.items c.into_inner.ensures.contents ∙ c.in-Ok.ensures.printed.0 ∙ ap (λ (t : List ℕ). t ++ plan_text plan) begun in
    subst (SpellsPlan plan) (sym text) (plan_reads_back plan c.put_plan.ensures.good (omega (arith, short, c.into_inner.result.ok, ap (λ (t : List ℕ). length t) text)))
