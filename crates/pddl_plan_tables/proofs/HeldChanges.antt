-- Changes that are held, each at the place of its action.
use Rattle.std.proofs.Common.{◌≡◌, true, ◌<◌, ◌⊎◌, inl, inr, ℕ, List, length, get_or, set, replicate, sym, ap, ◌∙◌, arith}
use Rattle.std.specs.Prelude.{Option, Some, None, is_some}
use Rattle.std.specs.List.{slice_get}
use Rattle.std.proofs.lemmas.Bool.{cases_eq}
use Rattle.std.proofs.lemmas.List.{get_or-set_same, get_or-set_other, get_or-replicate, length-set, length-replicate}
use Rattle.std.proofs.lemmas.Option.{slice_get-get_or, slice_get_within, get_or_from_slice_get}
use Rattle.pddl_domain.specs.Actions.{ActionValue}
use Rattle.pddl_task.specs.Tasks.{TaskValue}
use Rattle.pddl_compiled.specs.Views.{change_view}
use Rattle.pddl_compiled.specs.declared.compiled.Change.{Change}
use Rattle.pddl_plan_tables.specs.ChangeCosts.{some_cost, HasSameCosts}
use Rattle.pddl_plan_tables.specs.ActionChanges.{effect_of, AreChangesOf, HasChange}

same_held : {X : Type 0} (x y : X) → Some x ≡ Some y → x ≡ y
same_held x y h = cc

-- ---- what stands at a place

module _ {X : Type 0} where
  module _ (held : List (Option X)) (n : ℕ) (x : X) (low : n < length held) where
    -- what is put stands at its place
    pub put_there : slice_get (set held n (Some x)) n ≡ Some (Some x)
    put_there = slice_get-get_or (set held n (Some x)) n None (omega (arith, low, length-set held n (Some x))) ∙ ap Some (get_or-set_same held n (Some x) None low)

    -- at the other places stands what stood there
    pub put_or_kept : (m : ℕ) (y : X) → slice_get (set held n (Some x)) m ≡ Some (Some y) → ((m ≡ n) × (x ≡ y)) ⊎ (slice_get held m ≡ Some (Some y))
    put_or_kept m y is =
        elim (cases_eq m n) [
          | inl same ↦ inl (same, same_held x y (same_held (Some x) (Some y) (sym put_there ∙ sym (ap (slice_get (set held n (Some x))) same) ∙ is)))
          | inr other ↦ inr (kept other)
        ]
      where
        within : m < length (set held n (Some x))
        within = slice_get_within (set held n (Some x)) m (Some y) is

        kept : (m ≡ n → ⊥) → slice_get held m ≡ Some (Some y)
        kept other =
            slice_get-get_or held m None (omega (arith, within, length-set held n (Some x)))
            ∙ ap Some (sym (get_or-set_other held n m (Some x) None other)) ∙ sym (slice_get-get_or (set held n (Some x)) m None within) ∙ is

  -- where nothing was put nothing stands
  none_there : (many n : ℕ) (y : X) → slice_get (replicate many None) n ≡ Some (Some y) → ⊥
  none_there many n y is = differ (sym (get_or-replicate many n None None low) ∙ get_or_from_slice_get (replicate many None) n (Some y) None is)
    where
      low : n < many
      low = omega (arith, slice_get_within (replicate many None) n (Some y) is, length-replicate {A = Option X} many None)

      differ : None ≡ Some y → ⊥
      differ h = cc

-- ---- changes of a task's actions

module _ {A : Type 0} (task : TaskValue) (held : List (Option (Change A))) (are : AreChangesOf task held) (n : ℕ) (a : ActionValue) (at : slice_get task.actions n ≡ Some a) where
  -- there is a place for an action
  pub place_within : n < length held
  place_within = omega (arith, slice_get_within task.actions n a at, are.as_many)

  -- a change is put at the place of its action
  pub change_put : (x : Change A) → HasSameCosts (change_view x) (effect_of task a) → AreChangesOf task (set held n (Some x))
  change_put x same = record {
    as_many = length-set held n (Some x) ∙ are.as_many;
    right = λ m b y there is.
        elim (put_or_kept held n x place_within m y is) [
          | inl here ↦ λ test env.
              ap (λ (c : Change _). some_cost (change_view c) test env) (sym here.1) ∙ same test env
              ∙ ap (λ e. some_cost (effect_of task e) test env) (same_held a b (sym at ∙ sym (ap (slice_get task.actions) here.0) ∙ there))
          | inr before ↦ are.right m b y there before
        ];
  }

  -- one stands at a place
  pub change_there : (o : Option (Change A)) → o ≡ get_or held n o → is_some o ≡ true → HasChange held n
  change_there None got is = cc
  change_there (Some x) got is = (x, slice_get-get_or held n (Some x) place_within ∙ ap Some (sym got))

  -- what stands at a place is right for its action
  pub right_there : (o : Option (Change A)) (x : Change A) → o ≡ get_or held n o → o ≡ Some x → HasSameCosts (change_view x) (effect_of task a)
  right_there o x got is = are.right n a x at (slice_get-get_or held n o place_within ∙ ap Some (sym got ∙ is))

  pub not_none : (o : Option (Change A)) → o ≡ get_or held n o → o ≡ None → HasChange held n → ⊥
  not_none o got is has = let there : get_or held n o ≡ Some has.0 = get_or_from_slice_get held n (Some has.0) o has.1 in cc

-- at first none is held
pub none_held : {A : Type 0} (task : TaskValue) (held : List (Option (Change A))) (many : ℕ) → held ≡ replicate many None → many ≡ length task.actions → AreChangesOf task held
none_held task held many none as_many = record {
  as_many = ap length none ∙ length-replicate many None ∙ as_many;
  right = λ n a x at is. absurd (none_there many n x (sym (ap (λ h. slice_get h n) none) ∙ is));
}
