-- Numbers that are listed once.
use Rattle.std.proofs.Common.{◌≡◌, ℕ, zero, suc, ◌+◌, ◌≤◌, ◌<◌, Bool, true, false, cond, ◌||◌, List, [], ◌∷◌, refl, sym, ap, ◌∙◌, arith, length, eqb, eq-eqb}
use Rattle.std.specs.Prelude.{IsPermutation}
use Rattle.std.specs.List.{list_any, IsDistinct, AllByRecursion}
use Rattle.std.proofs.lemmas.Bool.{eqb-true, true≢false}
use Rattle.std.proofs.lemmas.List.Sums.{sum_by-cons}
use Rattle.pddl_happenings.proofs.Serialisations.{copies, from_copies, not_listed, one}
use Rattle.pddl_happenings.proofs.TimedHappenings.{unequal}
use Rattle.pddl_happenings.specs.Happenings.{numbers_to}

pub absent : (k : ℕ) (xs : List ℕ) → AllByRecursion (λ j. eqb k j ≡ false) xs → list_any (eqb k) xs ≡ false
absent k [] all = refl
absent k (x ∷ xs) all = rw all.0 (absent k xs all.1)

pub copies_once : (k : ℕ) (xs : List ℕ) → IsDistinct eqb xs → list_any (eqb k) xs ≡ true → copies k xs ≡ 1
unfolding IsDistinct
copies_once k [] once on = absurd (true≢false (sym on))
copies_once k (x ∷ xs) once on =
    elim (eqb k x) as (λ b. eqb k x ≡ b → (b || list_any (eqb k) xs) ≡ true → copies k (x ∷ xs) ≡ 1) [
      | true ↦ λ e _.
          let is : k ≡ x = eqb-true k x e in
          let none : copies k xs ≡ 0 = not_listed k xs (ap (λ j. list_any (eqb j) xs) is ∙ absent x xs once.0) in
          sum_by-cons (one k) x xs ∙ (ap (λ b. cond b 1 0 + copies k xs) e ∙ omega (arith, none))
      | false ↦ λ e on. sum_by-cons (one k) x xs ∙ (ap (λ b. cond b 1 0 + copies k xs) e ∙ omega (arith, copies_once k xs once.1 on))
    ] refl on

copies_by_test : (k : ℕ) (b : Bool) (xs : List ℕ) → IsDistinct eqb xs → list_any (eqb k) xs ≡ b → copies k xs ≡ cond b 1 0
copies_by_test k true xs once e = copies_once k xs once e
copies_by_test k false xs once e = not_listed k xs e

-- two lists of the same numbers, each once, are permutations
pub same_numbers : (xs ys : List ℕ) → IsDistinct eqb xs → IsDistinct eqb ys → ((k : ℕ) → list_any (eqb k) xs ≡ list_any (eqb k) ys) → IsPermutation xs ys
same_numbers xs ys dx dy same = from_copies xs ys (λ k. copies_by_test k (list_any (eqb k) ys) xs dx (same k) ∙ sym (copies_by_test k (list_any (eqb k) ys) ys dy refl))

-- ---- the numbers from i on
above : (h i n : ℕ) → h < i → AllByRecursion (λ k. eqb h k ≡ false) (numbers_to i n)
above h i zero lt = tt
above h i (suc n) lt = (unequal h i (λ e. absurd (omega (arith, lt, e))), above h (i + 1) n (omega (arith, lt)))

pub numbers_once : (i n : ℕ) → IsDistinct eqb (numbers_to i n)
unfolding IsDistinct
numbers_once i zero = tt
numbers_once i (suc n) = (above i (i + 1) n (omega arith), numbers_once (i + 1) n)

pub number_listed : (k i n : ℕ) → i ≤ k → k < i + n → list_any (eqb k) (numbers_to i n) ≡ true
number_listed k i zero h l = absurd (omega (arith, h, l))
number_listed k i (suc n) h l =
    elim (eqb k i) as (λ b. eqb k i ≡ b → (b || list_any (eqb k) (numbers_to (i + 1) n)) ≡ true) [
      | true ↦ λ _. refl
      | false ↦ λ e.
          let differ : k ≡ i → ⊥ = λ is. absurd (true≢false (sym (eq-eqb k i is) ∙ e)) in
          number_listed k (i + 1) n (omega (arith, h, differ)) (omega (arith, l))
    ] refl

pub number_within : (k i n : ℕ) → list_any (eqb k) (numbers_to i n) ≡ true → (i ≤ k) × (k < i + n)
number_within k i zero on = absurd (true≢false (sym on))
number_within k i (suc n) on =
    elim (eqb k i) as (λ b. eqb k i ≡ b → (b || list_any (eqb k) (numbers_to (i + 1) n)) ≡ true → (i ≤ k) × (k < i + suc n)) [
      | true ↦ λ e _. let is : k ≡ i = eqb-true k i e in (omega (arith, is), omega (arith, is))
      | false ↦ λ _ on. let w = number_within k (i + 1) n on in (omega (arith, w.0), omega (arith, w.1))
    ] refl on

pub length_numbers : (i n : ℕ) → length (numbers_to i n) ≡ n
length_numbers i zero = refl
length_numbers i (suc n) = omega (arith, length_numbers (i + 1) n)
