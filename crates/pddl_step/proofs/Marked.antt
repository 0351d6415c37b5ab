-- Actions that are marked one after another.
use Rattle.std.proofs.Common.{◌≡◌, ℕ, ◌+◌, ◌<◌, Bool, true, inl, inr, List, length, set, sym, ap, ◌∙◌, arith}
use Rattle.std.specs.Prelude.{Some, slice_get}
use Rattle.std.proofs.lemmas.Bool.{cases_eq}
use Rattle.std.proofs.lemmas.List.{get_or-set_same, get_or-set_other, length-set}
use Rattle.std.proofs.lemmas.Option.{slice_get-get_or, slice_get_within, get_or_from_slice_get}
use Rattle.pddl_linked_plan.specs.LinkedSteps.{LinkedStepValue}

module _ (marks : List Bool) (n : ℕ) (low : n < length marks) where
  marked_here : slice_get (set marks n true) n ≡ Some true
  marked_here = slice_get-get_or (set marks n true) n true (omega (arith, low, length-set marks n true)) ∙ ap Some (get_or-set_same marks n true true low)

  marked_still : (m : ℕ) → slice_get marks m ≡ Some true → slice_get (set marks n true) m ≡ Some true
  marked_still m is =
      elim (cases_eq m n) [
        | inl same ↦ ap (slice_get (set marks n true)) same ∙ marked_here
        | inr other ↦ slice_get-get_or (set marks n true) m true (omega (arith, slice_get_within marks m true is, length-set marks n true))
            ∙ ap Some (get_or-set_other marks n m true true other ∙ get_or_from_slice_get marks m true true is)
      ]

-- where the action of the next step is marked, those of the steps up to it are
pub marked_more : (steps : List LinkedStepValue) (marks : List Bool) (k n : ℕ) → n < length marks → ((s : LinkedStepValue) → slice_get steps k ≡ Some s → s.action ≡ n)
    → ((m : ℕ) (s : LinkedStepValue) → m < k → slice_get steps m ≡ Some s → slice_get marks s.action ≡ Some true) → (m : ℕ) (s : LinkedStepValue) → m < k + 1 → slice_get steps m ≡ Some s → slice_get (set marks n true) s.action ≡ Some true
marked_more steps marks k n low this before m s within is =
    elim (cases_eq m k) [
      | inl same ↦ ap (slice_get (set marks n true)) (this s (sym (ap (slice_get steps) same) ∙ is)) ∙ marked_here marks n low
      | inr other ↦ marked_still marks n low s.action (before m s (omega (arith, within, other)) is)
    ]
