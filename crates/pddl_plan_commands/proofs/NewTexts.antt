-- The text of a plan that was made is that of the plan.
use Rattle.std.proofs.Common.{◌≡◌, ℕ, List}
use Rattle.std.specs.Prelude.{Result, Ok, Err, IfOk, IsOkAnd}
use Rattle.std.proofs.lemmas.Result.{IfOk-weaker}
use Rattle.pddl_layout.specs.PlanLayout.{plan_text}
use Rattle.pddl_plan.specs.Plans.{PlanValue}

pub text_of_made : {P V E F : Type 0} (view : P → PlanValue) (items : V → List ℕ) (Is : PlanValue → Type 0) (made : Result P E) (text : Result V F)
    → IfOk text (λ t. IsOkAnd made (λ plan. items t ≡ plan_text (view plan))) → IfOk made (λ plan. Is (view plan))
    → IfOk text (λ t. (plan : PlanValue) × Is plan × (items t ≡ plan_text plan))
text_of_made view items Is (Ok plan) text texts is = IfOk-weaker text _ _ (λ t e. (view plan, is, e)) texts
text_of_made view items Is (Err e) (Ok t) texts is = absurd texts
text_of_made view items Is (Err e) (Err f) texts is = tt
