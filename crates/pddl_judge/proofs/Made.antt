-- The happenings that a map of steps by moment gives.
use Rattle.std.proofs.Common.{◌≡◌, ℕ, true, false, ◌||◌, List, [], ◌∷◌, map, refl, sym, ap, ◌∙◌, eqb, subst}
use Rattle.std.specs.Prelude.{Option, Some, None, All}
use Rattle.std.specs.List.{list_any}
use Rattle.std.specs.Map.{lookup, keys_of}
use Rattle.std.specs.Option.{is_some}
use Rattle.std.specs.Ordering.{nat_cmp}
use Rattle.std.specs.Cmp.{unsigned_tied}
use Rattle.std.specs.BTreeMap.{BTreeMap, IsOrdered, get, is_at, keys}
use Rattle.std.proofs.lemmas.Cmp.{nat_cmp_total}
use Rattle.std.proofs.lemmas.Map.Views.{All-found}
use Rattle.std.proofs.lemmas.List.Elements.{All-head, All-tail, All-weaker}
use Rattle.pddl_happenings.specs.Happenings.{AreOfTimed, steps_at}
use Rattle.pddl_judge.specs.HappeningValues.{HappeningValue, groups_of, moments_of}
use Rattle.pddl_judge.specs.Moments.{IsGroupAt}

any_keys : {X : Type 0} (m : ℕ) (es : List (ℕ × X)) → list_any (eqb m) (keys_of es) ≡ is_some (lookup (is_at (nat_cmp m)) es)
any_keys {X} m [] = refl
any_keys {X} m (e ∷ es) =
    elim (eqb m e.0) as (λ b. is_at (nat_cmp m) e.0 ≡ b → (b || list_any (eqb m) (keys_of es)) ≡ is_some (lookup (is_at (nat_cmp m)) (e ∷ es))) [
      | true ↦ λ t. rw t refl
      | false ↦ λ t. rw t (any_keys m es)
    ] (unsigned_tied m e.0)

module _ {X : Type 0} (items : X → List ℕ) (ms : List ℕ) where
  by_each : (es : List (ℕ × X)) → All (λ e. items e.1 ≡ steps_at ms e.0) es → map (λ e. items e.1) es ≡ map (steps_at ms) (keys_of es)
  by_each [] all = refl
  by_each (e ∷ es) all =
      let head : items e.1 ≡ steps_at ms e.0 = All-head (λ (d : ℕ × X). items d.1 ≡ steps_at ms d.0) e es all in
      let tail : map (λ d. items d.1) es ≡ map (steps_at ms) (keys_of es) = by_each es (All-tail (λ (d : ℕ × X). items d.1 ≡ steps_at ms d.0) e es all) in
      cc

  same_moments : (m : ℕ) (o : Option X) → IsGroupAt items ms m o → is_some o ≡ list_any (eqb m) ms
  same_moments m None is = sym is
  same_moments m (Some v) is = sym is.0

  some_moments : (es : List (ℕ × X)) → map (λ e. Some e.0) es ≡ map (λ m. Some m) (keys_of es)
  some_moments [] = refl
  some_moments (e ∷ es) = ap (λ l. Some e.0 ∷ l) (some_moments es)

  pub made : (groups : BTreeMap ℕ X) → IsOrdered nat_cmp groups → ((m : ℕ) → IsGroupAt items ms m (get nat_cmp groups m)) →
      (hs : List HappeningValue) → moments_of hs ≡ map (λ e. Some e.0) groups.entries → groups_of hs ≡ map (λ e. items e.1) groups.entries → AreOfTimed ms (moments_of hs) (groups_of hs)
  made groups ordered at hs moments steps = record {
    moments = keys groups;
    are = record {
      rising = ordered;
      same = λ m. any_keys m groups.entries ∙ same_moments m (get nat_cmp groups m) (at m);
    };
    moments_are = moments ∙ some_moments groups.entries;
    steps_are = steps ∙ by_each groups.entries (All-weaker (λ (e : ℕ × X). get nat_cmp groups e.0 ≡ Some e.1) (λ (e : ℕ × X). items e.1 ≡ steps_at ms e.0) (λ e is.
        let here : IsGroupAt items ms e.0 (Some e.1) = subst (IsGroupAt items ms e.0) is (at e.0) in here.1) groups.entries (All-found nat_cmp_total groups ordered));
  }
