-- The steps at a moment, as a relation: rising, and exactly those that have it.
use Rattle.std.proofs.Common.{◌≡◌, ◌↔◌, ℕ, suc, ◌+◌, ◌-◌, ◌≤◌, ◌<◌, Bool, true, false, cond, ◌||◌, List, [], ◌∷◌, refl, sym, ap, ◌∙◌, arith, length, get_or, eqb, eq-eqb}
use Rattle.std.specs.Prelude.{◌==◌}
use Rattle.std.specs.List.{list_any, AllByRecursion}
use Rattle.std.specs.List.Sorted.{IsStrictlySortedBy}
use Rattle.std.specs.Ordering.{nat_cmp}
use Rattle.std.specs.Cmp.{nat_cmp_is}
use Rattle.std.specs.declared.cmp.Ordering.TheVariants.{Less}
use Rattle.std.proofs.lemmas.Bool.{eqb-true, true≢false}
use Rattle.pddl_happenings.proofs.TimedHappenings.{all_weaker}
use Rattle.pddl_happenings.specs.Happenings.{numbers_from, steps_at}

listed_has : (k i m : ℕ) (ms : List ℕ) → list_any (eqb k) (numbers_from i (λ n. n == m) ms) ≡ true → (i ≤ k) × (k < i + length ms) × (get_or ms (k - i) 0 ≡ m)
listed_has k i m [] on = absurd (true≢false (sym on))
listed_has k i m (x ∷ ms) on =
    let rest : List ℕ = numbers_from (i + 1) (λ n. n == m) ms in
    let later : list_any (eqb k) rest ≡ true → (i ≤ k) × (k < i + length (x ∷ ms)) × (get_or (x ∷ ms) (k - i) 0 ≡ m) = λ l.
    let h = listed_has k (i + 1) m ms l in
    let e : k - i ≡ suc (k - (i + 1)) = omega (arith, h.0) in
    (omega (arith, h.0), omega (arith, h.1), ap (λ n. get_or (x ∷ ms) n 0) e ∙ h.2) in
    elim (x == m) as (λ b. (x == m) ≡ b → list_any (eqb k) (cond b (i ∷ rest) rest) ≡ true → (i ≤ k) × (k < i + length (x ∷ ms)) × (get_or (x ∷ ms) (k - i) 0 ≡ m)) [
      | true ↦ λ e on. elim (eqb k i) as (λ b. eqb k i ≡ b → (b || list_any (eqb k) rest) ≡ true → (i ≤ k) × (k < i + length (x ∷ ms)) × (get_or (x ∷ ms) (k - i) 0 ≡ m)) [
        | true ↦ λ t _.
            let is : k ≡ i = eqb-true k i t in
            let z : k - i ≡ 0 = omega (arith, is) in
            (omega (arith, is), omega (arith, is), ap (λ n. get_or (x ∷ ms) n 0) z ∙ eqb-true x m e)
        | false ↦ λ _ l. later l
      ] refl on
      | false ↦ λ _ l. later l
    ] refl on

has_listed : (k i m : ℕ) (ms : List ℕ) → i ≤ k → k < i + length ms → get_or ms (k - i) 0 ≡ m → list_any (eqb k) (numbers_from i (λ n. n == m) ms) ≡ true
has_listed k i m [] h l is = absurd (omega (arith, h, l))
has_listed k i m (x ∷ ms) h l is =
    let rest : List ℕ = numbers_from (i + 1) (λ n. n == m) ms in
    elim (eqb k i) as (λ b. eqb k i ≡ b → list_any (eqb k) (cond (x == m) (i ∷ rest) rest) ≡ true) [
      | true ↦ λ t.
          let same : k ≡ i = eqb-true k i t in
          let z : 0 ≡ k - i = omega (arith, same) in
          let on : (x == m) ≡ true = eq-eqb x m (ap (λ n. get_or (x ∷ ms) n 0) z ∙ is) in
          ap (λ b. list_any (eqb k) (cond b (i ∷ rest) rest)) on ∙ ap (λ b. b || list_any (eqb k) rest) t
      | false ↦ λ t.
          let differ : k ≡ i → ⊥ = λ same. absurd (true≢false (sym (eq-eqb k i same) ∙ t)) in
          let e : suc (k - (i + 1)) ≡ k - i = omega (arith, h, differ) in
          let there : list_any (eqb k) rest ≡ true = has_listed k (i + 1) m ms (omega (arith, h, differ)) (omega (arith, l)) (ap (λ n. get_or (x ∷ ms) n 0) e ∙ is) in
          elim (x == m) as (λ b. list_any (eqb k) (cond b (i ∷ rest) rest) ≡ true) [
            | true ↦ ap (λ b. b || list_any (eqb k) rest) t ∙ there
            | false ↦ there
          ]
    ] refl

from_on : (t : ℕ → Bool) (i : ℕ) (ms : List ℕ) → AllByRecursion (λ k. i ≤ k) (numbers_from i t ms)
from_on t i [] = tt
from_on t i (x ∷ ms) =
    let rest : AllByRecursion (λ k. i ≤ k) (numbers_from (i + 1) t ms) = all_weaker (λ k. i + 1 ≤ k) (λ k. i ≤ k) (λ k l. omega (arith, l)) (numbers_from (i + 1) t ms) (from_on t (i + 1) ms) in
    elim (t x) as (λ b. AllByRecursion (λ k. i ≤ k) (cond b (i ∷ numbers_from (i + 1) t ms) (numbers_from (i + 1) t ms))) [ true ↦ (omega arith, rest) | false ↦ rest ]

rising : (t : ℕ → Bool) (i : ℕ) (ms : List ℕ) → IsStrictlySortedBy nat_cmp (numbers_from i t ms)
unfolding IsStrictlySortedBy
rising t i [] = tt
rising t i (x ∷ ms) =
    elim (t x) as (λ b. IsStrictlySortedBy nat_cmp (cond b (i ∷ numbers_from (i + 1) t ms) (numbers_from (i + 1) t ms))) [
      | true ↦ (all_weaker (λ k. i + 1 ≤ k) (λ k. nat_cmp i k ≡ Less) (λ k l. let lt : i < k = omega (arith, l) in sym (nat_cmp_is i k Less lt)) (numbers_from (i + 1) t ms) (from_on t (i + 1) ms), rising t (i + 1) ms)
      | false ↦ rising t (i + 1) ms
    ]

pub steps_rise : (ms : List ℕ) (m : ℕ) → IsStrictlySortedBy nat_cmp (steps_at ms m)
steps_rise ms m = rising (λ n. n == m) 0 ms

pub steps_have : (ms : List ℕ) (m k : ℕ) → list_any (eqb k) (steps_at ms m) ≡ true ↔ ((k < length ms) × (get_or ms k 0 ≡ m))
steps_have ms m k =
    let z : k - 0 ≡ k = omega arith in (
      λ on. let h = listed_has k 0 m ms on in (omega (arith, h.1), sym (ap (λ n. get_or ms n 0) z) ∙ h.2),
      λ w. has_listed k 0 m ms (omega arith) (omega (arith, w.0)) (ap (λ n. get_or ms n 0) z ∙ w.1),
    )
