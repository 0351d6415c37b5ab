-- Marks set one after another, and forms held one behind another.
use Rattle.std.proofs.Common.{◌≡◌, ◌<◌, ◌+◌, ◌++◌, ℕ, zero, suc, Bool, true, false, List, [], ◌∷◌, length, get_or, set, eqb, eq-eqb, refl, sym, ap, ◌∙◌, subst, arith, inl, inr}
use Rattle.std.specs.Prelude.{◌⊎◌, Option, Some, None, slice_get, MatchOption}
use Rattle.std.proofs.lemmas.Bool.{true≢false, eqb-true}
use Rattle.std.proofs.lemmas.List.{get_or-set_same, length-set}
use Rattle.std.proofs.lemmas.Option.{slice_get-get_or}
use Rattle.pddl_domain.specs.Actions.{ActionValue}
use Rattle.pddl_task.specs.Tasks.{TaskValue}
use Rattle.pddl_compiled_plan.specs.CompiledSteps.{form_in, form_of, AreForms, IsHeld}
use Rattle.pddl_compiled_plan.specs.declared.action.CompiledAction.{CompiledAction}
use Rattle.pddl_compiled_plan.proofs.Forms.{same_some}

-- ---- marks

marked_at : (marks : List Bool) (j : ℕ) → j < length marks → get_or marks j false ≡ true → slice_get marks j ≡ Some true
marked_at marks j low is = slice_get-get_or marks j false low ∙ ap Some is

pub mark_here : (marks : List Bool) (i : ℕ) → i < length marks → slice_get (set marks i true) i ≡ Some true
mark_here marks i low = marked_at (set marks i true) i (subst (λ n. i < n) (sym (length-set marks i true)) low) (get_or-set_same marks i true false low)

-- ---- one more at the end

pub stays : {X : Type 0} (xs ys : List X) (n : ℕ) (x : X) → slice_get xs n ≡ Some x → slice_get (xs ++ ys) n ≡ Some x
stays [] ys n x is = cc
stays (y ∷ xs) ys zero x is = is
stays (y ∷ xs) ys (suc n) x is = stays xs ys n x is

pub is_last : {X : Type 0} (xs : List X) (y : X) → slice_get (xs ++ y ∷ []) (length xs) ≡ Some y
is_last [] y = refl
is_last (x ∷ xs) y = is_last xs y

pub before_or_last : {X : Type 0} (xs : List X) (y : X) (n : ℕ) (x : X) → slice_get (xs ++ y ∷ []) n ≡ Some x → (slice_get xs n ≡ Some x) ⊎ ((n ≡ length xs) × (y ≡ x))
before_or_last [] y zero x is = inr (refl, same_some y x is)
before_or_last [] y (suc n) x is = cc
before_or_last (z ∷ xs) y zero x is = inl is
before_or_last (z ∷ xs) y (suc n) x is =
    elim (before_or_last xs y n x is) as (λ _. (slice_get xs n ≡ Some x) ⊎ ((suc n ≡ suc (length xs)) × (y ≡ x))) [
      | inl there ↦ inl there
      | inr last ↦ inr (ap suc last.0, last.1)
    ]

pub one_longer : {X : Type 0} (xs : List X) (y : X) → length (xs ++ y ∷ []) ≡ length xs + 1
one_longer [] y = omega arith
one_longer (x ∷ xs) y = omega (arith, one_longer xs y)

-- ---- forms held

module _ {A : Type 0} (task : TaskValue) (held : List (Option (CompiledAction A))) (o : Option (CompiledAction A)) (mark : Bool) (n : ℕ) (many : length held ≡ n)
    (is_form : MatchOption o (mark ≡ false) (λ c. (a : ActionValue) → slice_get task.actions n ≡ Some a → form_in c ≡ form_of task a)) where
  pub form_more : AreForms task held → AreForms task (held ++ o ∷ [])
  form_more forms k a c at is =
      elim (before_or_last held o k (Some c) is) as (λ _. form_in c ≡ form_of task a) [
        | inl there ↦ forms k a c at there
        | inr last ↦ subst (λ q. MatchOption q (mark ≡ false) (λ e. (b : ActionValue) → slice_get task.actions n ≡ Some b → form_in e ≡ form_of task b)) last.1 is_form a (subst (λ j. slice_get task.actions j ≡ Some a) (last.0 ∙ many) at)
      ]

  held_last : (q : Option (CompiledAction A)) → o ≡ q → MatchOption q (mark ≡ false) (λ c. (a : ActionValue) → slice_get task.actions n ≡ Some a → form_in c ≡ form_of task a) → mark ≡ true → IsHeld (held ++ o ∷ []) (length held)
  held_last (Some c) is form on = (c, is_last held o ∙ ap Some is)
  held_last None is off on = absurd (true≢false (sym on ∙ off))

  pub held_more : (marks : List Bool) → ((k : ℕ) → k < length held → slice_get marks k ≡ Some true → IsHeld held k) → slice_get marks n ≡ Some mark
      → (k : ℕ) → k < length (held ++ o ∷ []) → slice_get marks k ≡ Some true → IsHeld (held ++ o ∷ []) k
  held_more marks before own k low on =
      elim (eqb k (length held)) as (λ b. eqb k (length held) ≡ b → IsHeld (held ++ o ∷ []) k) [
        | true ↦ λ e.
            let same : k ≡ length held = eqb-true k (length held) e in
            subst (IsHeld (held ++ o ∷ [])) (sym same) (held_last o refl is_form (same_some mark true (sym own ∙ (ap (slice_get marks) (sym many ∙ sym same) ∙ on))))
        | false ↦ λ e.
            let other : k ≡ length held → ⊥ = λ s. true≢false (sym (eq-eqb k (length held) s) ∙ e) in
            let there = before k (omega (arith, low, other, one_longer held o)) on in
            (there.0, stays held (o ∷ []) k (Some there.0) there.1)
      ] refl
