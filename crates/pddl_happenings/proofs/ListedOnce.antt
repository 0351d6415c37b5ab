-- The happenings of a plan list each step once.
use Rattle.std.proofs.Common.{◌≡◌, ℕ, ◌+◌, Bool, true, false, cond, ◌||◌, List, [], ◌∷◌, ◌++◌, map, refl, sym, ap, ◌∙◌, arith, length, eqb, eq-eqb, subst}
use Rattle.std.specs.Prelude.{Option, IsPermutation, ◌==◌}
use Rattle.std.specs.List.{list_any, concat, IsDistinct, AllByRecursion}
use Rattle.std.proofs.lemmas.Bool.{eqb-true, true≢false}
use Rattle.std.proofs.lemmas.List.Sums.{sum_by-cons, sum_by-append}
use Rattle.std.proofs.lemmas.List.Sorted.{IsPermutation-refl, length_permutation}
use Rattle.std.proofs.lemmas.Map.Keys.{IsDistinct-IsPermutation}
use Rattle.pddl_happenings.proofs.Copies.{length_numbers, numbers_once}
use Rattle.pddl_happenings.proofs.Prefixes.{concat_singles, eqb-comm}
use Rattle.pddl_happenings.proofs.Serialisations.{copies, from_copies, one}
use Rattle.pddl_happenings.proofs.TimedHappenings.{moments_once}
use Rattle.pddl_happenings.specs.Happenings.{AreOfPlain, AreOfTimed, HaveEachOnce, numbers_from, numbers_to, steps_at}

-- the groups of the steps from number i on
groups_from : ℕ → List ℕ → List ℕ → List (List ℕ)
groups_from i ms moments = map (λ m. numbers_from i (λ n. n == m) ms) moments

-- a step at a moment that is none of these changes no group
unmoved : (i x : ℕ) (ms moments : List ℕ) → AllByRecursion (λ m. eqb x m ≡ false) moments → groups_from i (x ∷ ms) moments ≡ groups_from (i + 1) ms moments
unfolding groups_from
unmoved i x ms [] all = refl
unmoved i x ms (m ∷ moments) all =
    let head : numbers_from i (λ n. n == m) (x ∷ ms) ≡ numbers_from (i + 1) (λ n. n == m) ms = ap (λ b. cond b (i ∷ numbers_from (i + 1) (λ n. n == m) ms) (numbers_from (i + 1) (λ n. n == m) ms)) all.0 in
    let tail : map (λ m. numbers_from i (λ n. n == m) (x ∷ ms)) moments ≡ map (λ m. numbers_from (i + 1) (λ n. n == m) ms) moments = unmoved i x ms moments all.1 in
    cc

empty : (k i : ℕ) (moments : List ℕ) → copies k (concat (groups_from i [] moments)) ≡ 0
unfolding groups_from
empty k i [] = refl
empty k i (m ∷ moments) = empty k i moments

module _ (k : ℕ) where
  -- and one at a moment that is one of these is in one group
  moved : (i x : ℕ) (ms moments : List ℕ) → IsDistinct eqb moments → list_any (eqb x) moments ≡ true → copies k (concat (groups_from i (x ∷ ms) moments)) ≡ one k i + copies k (concat (groups_from (i + 1) ms moments))
  unfolding groups_from IsDistinct
  moved i x ms [] once on = absurd (true≢false (sym on))
  moved i x ms (m ∷ moments) once on =
      let g : List ℕ = numbers_from (i + 1) (λ n. n == m) ms in
      let old : List ℕ = concat (groups_from (i + 1) ms moments) in
      let new : List ℕ = concat (groups_from i (x ∷ ms) moments) in
      elim (eqb x m) as (λ b. eqb x m ≡ b → (b || list_any (eqb x) moments) ≡ true → copies k (cond b (i ∷ g) g ++ new) ≡ one k i + copies k (g ++ old)) [
        | true ↦ λ e _.
            let is : x ≡ m = eqb-true x m e in
            let same : new ≡ old = ap concat (unmoved i x ms moments (subst (λ y. AllByRecursion (λ j. eqb y j ≡ false) moments) (sym is) once.0)) in
            sum_by-cons (one k) i (g ++ new) ∙ ap (λ l. one k i + copies k (g ++ l)) same
        | false ↦ λ _ on.
            let rest : copies k new ≡ one k i + copies k old = moved i x ms moments once.1 on in
            omega (arith, rest, sum_by-append (one k) g new, sum_by-append (one k) g old)
      ] refl on

  all_copies : (i : ℕ) (ms moments : List ℕ) → IsDistinct eqb moments → ((m : ℕ) → list_any (eqb m) ms ≡ true → list_any (eqb m) moments ≡ true) → copies k (concat (groups_from i ms moments)) ≡ copies k (numbers_to i (length ms))
  all_copies i [] moments once within = empty k i moments
  all_copies i (x ∷ ms) moments once within =
      moved i x ms moments once (within x (ap (λ b. b || list_any (eqb x) ms) (eq-eqb x x refl)))
      ∙ (ap (λ n. one k i + n) (all_copies (i + 1) ms moments once (λ m on. within m (any_true (eqb m x) (list_any (eqb m) ms) on))) ∙ sym (sum_by-cons (one k) i (numbers_to (i + 1) (length ms))))
    where
      any_true : (a b : Bool) → b ≡ true → (a || b) ≡ true
      any_true true b e = refl
      any_true false b e = e

-- of a timed plan
pub timed_each : (ms : List ℕ) (at : List (Option ℕ)) (gs : List (List ℕ)) → AreOfTimed ms at gs → HaveEachOnce (length ms) gs
unfolding groups_from
timed_each ms at gs of = subst (HaveEachOnce (length ms)) (sym of.steps_are)
    (from_copies (numbers_to 0 (length ms)) (concat (map (steps_at ms) of.moments)) (λ k. sym (all_copies k 0 ms of.moments (moments_once ms of.moments of.are) (λ m on. of.are.same m ∙ on))))

-- and of a plain one
pub plain_each : (n : ℕ) (at : List (Option ℕ)) (gs : List (List ℕ)) → AreOfPlain n at gs → HaveEachOnce n gs
plain_each n at gs of = subst (IsPermutation (numbers_to 0 n)) (sym (ap concat of.steps_are ∙ concat_singles (numbers_to 0 n))) (IsPermutation-refl (numbers_to 0 n))

-- so they list as many as there are
pub as_many : (n : ℕ) (gs : List (List ℕ)) → HaveEachOnce n gs → length (concat gs) ≡ n
as_many n gs each = omega (arith, length_permutation (numbers_to 0 n) (concat gs) each, length_numbers 0 n)

-- and none twice
pub is_distinct : (n : ℕ) (gs : List (List ℕ)) → HaveEachOnce n gs → IsDistinct eqb (concat gs)
is_distinct n gs each = IsDistinct-IsPermutation eqb eqb-comm (numbers_to 0 n) (concat gs) each (numbers_once 0 n)
