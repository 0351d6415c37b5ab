-- The steps at a moment, one step further, and what a map of them by moment is.
use Rattle.std.proofs.Common.{◌≡◌, ℕ, ◌+◌, ◌<◌, Bool, true, false, cond, ◌||◌, List, [], ◌∷◌, ◌++◌, refl, sym, ap, ◌∙◌, arith, length, eqb, eq-eqb, append-nil, subst, take, get_or}
use Rattle.std.specs.Prelude.{Option, Some, None, MatchOption, ◌==◌}
use Rattle.std.specs.List.{list_any}
use Rattle.std.proofs.lemmas.Bool.{eqb-true, true≢false}
use Rattle.std.proofs.lemmas.List.Folds.{list_any-append}
use Rattle.std.specs.Ordering.{nat_cmp}
use Rattle.std.specs.Cmp.{unsigned_tied}
use Rattle.std.specs.BTreeMap.{BTreeMap, Updates, get, is_at}
use Rattle.std.proofs.lemmas.List.{take_more, length-take-le}
use Rattle.pddl_happenings.proofs.TimedHappenings.{unequal}
use Rattle.pddl_happenings.specs.Happenings.{numbers_from, steps_at}
use Rattle.pddl_judge.proofs.Made.{made}
use Rattle.pddl_judge.specs.Moments.{IsGroupAt}

-- one more moment
pushed : (i : ℕ) (t : ℕ → Bool) (ms : List ℕ) (m : ℕ) → numbers_from i t (ms ++ m ∷ []) ≡ numbers_from i t ms ++ cond (t m) ((i + length ms) ∷ []) []
pushed i t [] m = let e : i ≡ i + 0 = omega arith in ap (λ n. cond (t m) (n ∷ []) []) e
pushed i t (x ∷ ms) m =
    let e : (i + 1) + length ms ≡ i + length (x ∷ ms) = omega arith in
    let rest : numbers_from (i + 1) t (ms ++ m ∷ []) ≡ numbers_from (i + 1) t ms ++ cond (t m) ((i + length (x ∷ ms)) ∷ []) [] =
    pushed (i + 1) t ms m ∙ ap (λ n. numbers_from (i + 1) t ms ++ cond (t m) (n ∷ []) []) e in
    elim (t x) as (λ b. cond b (i ∷ numbers_from (i + 1) t (ms ++ m ∷ [])) (numbers_from (i + 1) t (ms ++ m ∷ [])) ≡ cond b (i ∷ numbers_from (i + 1) t ms) (numbers_from (i + 1) t ms) ++ cond (t m) ((i + length (x ∷ ms)) ∷ []) []) [
      | true ↦ ap (λ l. i ∷ l) rest
      | false ↦ rest
    ]

none_at : (i m : ℕ) (ms : List ℕ) → list_any (eqb m) ms ≡ false → numbers_from i (λ n. n == m) ms ≡ []
none_at i m [] off = refl
none_at i m (x ∷ ms) off =
    let none : (list_any (eqb m) ms ≡ false) × ((x == m) ≡ false) = elim (eqb m x) as (λ b. eqb m x ≡ b → (b || list_any (eqb m) ms) ≡ false → (list_any (eqb m) ms ≡ false) × ((x == m) ≡ false)) [
      | true ↦ λ _ h. absurd (true≢false h)
      | false ↦ λ e h. (h, unequal x m (λ is. absurd (true≢false (sym (eq-eqb m x (sym is)) ∙ e))))
    ] refl off in
    rw none.1 (none_at (i + 1) m ms none.0)

module _ {X : Type 0} (items : X → List ℕ) (done : List ℕ) (x : ℕ) where
  -- the group of the moment that was pushed
  pub group_here : (old : Option X) (before : List ℕ) (v : X) → IsGroupAt items done x old → MatchOption old (before ≡ []) (λ w. before ≡ items w) → items v ≡ before ++ length done ∷ [] → IsGroupAt items (done ++ x ∷ []) x (Some v)
  group_here old before v was is more =
      let on : (x == x) ≡ true = eq-eqb x x refl in
      let zero_more : 0 + length done ≡ length done = omega arith in
      let listed : list_any (eqb x) (done ++ x ∷ []) ≡ true = list_any-append (eqb x) done (x ∷ []) ∙ (ap (λ b. list_any (eqb x) done || (b || false)) on ∙ any_true (list_any (eqb x) done)) in
      let same : before ≡ steps_at done x = elim old as (λ o. IsGroupAt items done x o → MatchOption o (before ≡ []) (λ w. before ≡ items w) → before ≡ steps_at done x) [
        | None ↦ λ w e. e ∙ sym (none_at 0 x done w)
        | Some u ↦ λ w e. e ∙ w.1
      ] was is in
      (listed, more ∙ (ap (λ l. l ++ length done ∷ []) same ∙ sym (pushed 0 (λ n. n == x) done x ∙ (ap (λ b. steps_at done x ++ cond b ((0 + length done) ∷ []) []) on ∙ ap (λ n. steps_at done x ++ n ∷ []) zero_more))))
    where
      any_true : (b : Bool) → (b || true) ≡ true
      any_true true = refl
      any_true false = refl

  -- the group of another one
  pub group_there : (q : ℕ) (o : Option X) → eqb x q ≡ false → IsGroupAt items done q o → IsGroupAt items (done ++ x ∷ []) q o
  group_there q o apart was =
      let back : eqb q x ≡ false = unequal q x (λ is. absurd (true≢false (sym (eq-eqb x q (sym is)) ∙ apart))) in
      let any : list_any (eqb q) (done ++ x ∷ []) ≡ list_any (eqb q) done = list_any-append (eqb q) done (x ∷ []) ∙ (ap (λ b. list_any (eqb q) done || (b || false)) back ∙ any_false (list_any (eqb q) done)) in
      let steps : steps_at (done ++ x ∷ []) q ≡ steps_at done q = pushed 0 (λ n. n == q) done x ∙ (ap (λ b. steps_at done q ++ cond b ((0 + length done) ∷ []) []) apart ∙ append-nil (steps_at done q)) in
      elim o as (λ p. IsGroupAt items done q p → IsGroupAt items (done ++ x ∷ []) q p) [
        | None ↦ λ w. any ∙ w
        | Some u ↦ λ w. (any ∙ w.0, w.1 ∙ sym steps)
      ] was
    where
      any_false : (b : Bool) → (b || false) ≡ b
      any_false true = refl
      any_false false = refl

-- the groups by moment, one step further: that of the step's moment is taken out, and put back with the step
pub group_more : {X : Type 0} (items : X → List ℕ) (ms : List ℕ) (i : ℕ) (lt : i < length ms) (m n o : BTreeMap ℕ X) (old : Option X) (before : List ℕ) (v : X) →
    ((q : ℕ) → IsGroupAt items (take i ms) q (get nat_cmp m q)) →
    Updates nat_cmp m n (get_or ms i 0) None → Updates nat_cmp n o (get_or ms i 0) (Some v) →
    old ≡ get nat_cmp m (get_or ms i 0) → MatchOption old (before ≡ []) (λ w. before ≡ items w) → items v ≡ before ++ i ∷ [] →
    (q : ℕ) → IsGroupAt items (take (i + 1) ms) q (get nat_cmp o q)
group_more items ms i lt m n o old before v so_far out put was made more q =
    let x : ℕ = get_or ms i 0 in
    let done : List ℕ = take i ms in
    let length_is : length done ≡ i = length-take-le i ms (omega (arith, lt)) in
    let at_old : IsGroupAt items done x old = subst (IsGroupAt items done x) (sym was) (so_far x) in
    let here : IsGroupAt items (done ++ x ∷ []) x (Some v) = group_here items done x old before v at_old made (more ∙ ap (λ k. before ++ k ∷ []) (sym length_is)) in
    subst (λ l. IsGroupAt items l q (get nat_cmp o q)) (sym (take_more ms i 0 lt))
    (elim (eqb x q) as (λ b. eqb x q ≡ b → IsGroupAt items (done ++ x ∷ []) q (get nat_cmp o q)) [
      | true ↦ λ e.
          let is : x ≡ q = eqb-true x q e in
          subst (λ k. IsGroupAt items (done ++ x ∷ []) k (get nat_cmp o k)) is (subst (IsGroupAt items (done ++ x ∷ []) x) (sym put.1) here)
      | false ↦ λ e.
          let off : is_at (nat_cmp x) q ≡ false = unsigned_tied x q ∙ e in
          let same : get nat_cmp o q ≡ get nat_cmp m q = put.2 q off ∙ out.2 q off in
          subst (IsGroupAt items (done ++ x ∷ []) q) (sym same) (group_there items done x q (get nat_cmp m q) e (so_far q))
    ] refl)
