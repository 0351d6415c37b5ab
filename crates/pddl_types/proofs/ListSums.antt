-- Sums over what passes a test, lists that rise, and the objects under tops that are apart: by sums over their places, and as parts of an order of all.
use Rattle.std.proofs.Common.{◌≡◌, ℕ, suc, ◌+◌, ◌-◌, ◌<◌, ◌≤◌, Bool, true, false, ltb, leb, List, [], ◌∷◌, filter, length, take, drop, refl, sym, ap, ◌∙◌, subst, arith, slice_index_or, not, cond}
use Rattle.std.proofs.Math.Nat.{ℕ_set}
use Rattle.std.specs.Coded.{le_prop}
use Rattle.std.specs.List.{sum_by, range_with_len}
use Rattle.std.proofs.lemmas.Bool.Decides.{nat_tests}
use Rattle.std.proofs.lemmas.List.{get_or_default, get_or-take, get_or-drop, length-drop, length-take, length-take-le}
use Rattle.std.proofs.lemmas.List.Folds.{list_any_more, Any-from_list_any}
use Rattle.std.proofs.lemmas.List.Sorted.{sum_by-IsPermutation, IsNonDecreasingBy-drop}
use Rattle.std.specs.List.Sorted.{IsNonDecreasingBy, IsPartitionPoint}
use Rattle.std.proofs.Math.Logic.{∥∥₁_elim}
use Rattle.pddl_task.specs.Tasks.{places_from}
use Rattle.pddl_forest.specs.Forests.{number_at}
use Rattle.pddl_forest.specs.Spans.{holds, some_holds, AreApart}
use Rattle.pddl_forest.specs.declared.spans.Span.{Span}
use Rattle.pddl_types.specs.ObjectOrders.{IsOrderOf}
use Rattle.std.proofs.lemmas.List.FromFn.{get_or-range_with_len, length-range_with_len}
use Rattle.std.proofs.lemmas.List.Kept.{IsNonDecreasingBy-filter}
use Rattle.std.proofs.lemmas.List.Sums.{sum_by-cons, sum_by-le, sum_by-take-drop, get_or-le-sum_by}

-- ---- sums

-- a sum over what passes a test
abbrev pub sum_if : {X : Type 0} → (X → Bool) → (X → ℕ) → List X → ℕ
sum_if test f = sum_by (λ x. cond (test x) (f x) 0)

sum_filter : {X : Type 0} (test : X → Bool) (f : X → ℕ) (xs : List X) → sum_by f (filter test xs) ≡ sum_if test f xs
sum_filter test f [] = refl
sum_filter test f (x ∷ xs) = grind (arith, sum_filter test f xs, sum_by-cons f x (filter test xs), sum_by-cons (λ y. cond (test y) (f y) 0) x xs)

sum_two : {X : Type 0} (f g h : X → ℕ) → ((x : X) → h x ≡ f x + g x) → (xs : List X) → sum_by h xs ≡ sum_by f xs + sum_by g xs
sum_two f g h is [] = refl
sum_two f g h is (x ∷ xs) = omega (arith, sum_two f g h is xs, is x, sum_by-cons f x xs, sum_by-cons g x xs, sum_by-cons h x xs)

pub sum_ones : {X : Type 0} (xs : List X) → sum_by (λ _. 1) xs ≡ length xs
sum_ones [] = refl
sum_ones (x ∷ xs) = omega (arith, sum_ones xs, sum_by-cons (λ _. 1) x xs)

-- ---- lists that rise

-- where all sums are the same, the first number of the one is not past that of the other
not_past : (x y : ℕ) (xs ys : List ℕ) → IsNonDecreasingBy (λ n. n) (x ∷ xs) → ((f : ℕ → ℕ) → sum_by f (x ∷ xs) ≡ sum_by f (y ∷ ys)) → x ≤ y
not_past x y xs ys up same =
    let f : ℕ → ℕ = λ n. cond (leb n y) 1 0 in
    let none : y < x → sum_by f (x ∷ xs) ≡ 0 = λ past. omega (arith, sum_by-le f 0 (x ∷ xs) (λ i d low. grind (arith, nat_tests, up 0 i d (omega arith) low, past))) in
    grind (arith, nat_tests, none, get_or-le-sum_by f (y ∷ ys) 0 y (omega arith), same f)

-- such lists with the same sums are one
pub same_rising : (xs ys : List ℕ) → IsNonDecreasingBy (λ n. n) xs → IsNonDecreasingBy (λ n. n) ys → ((f : ℕ → ℕ) → sum_by f xs ≡ sum_by f ys) → xs ≡ ys
same_rising [] [] up also same = refl
same_rising [] (y ∷ ys) up also same = absurd (omega (arith, same (λ _. 1), sum_ones (y ∷ ys)))
same_rising (x ∷ xs) [] up also same = absurd (omega (arith, same (λ _. 1), sum_ones (x ∷ xs)))
same_rising (x ∷ xs) (y ∷ ys) up also same =
    let one : x ≡ y = omega (arith, not_past x y xs ys up same, not_past y x ys xs also (λ f. sym (same f))) in
    let rest = same_rising xs ys (IsNonDecreasingBy-drop (λ n. n) 1 (x ∷ xs) up) (IsNonDecreasingBy-drop (λ n. n) 1 (y ∷ ys) also) (λ f. omega (arith, sum_by-cons f x xs, sum_by-cons f y ys, same f, ap f one)) in
    cc

-- ---- the places of what passes a test

-- from a first one on they are the numbers that do
places_from_are : {X : Type 0} (test : X → Bool) (d : X) (k : ℕ) (xs : List X) (passes : ℕ → Bool) → ((i : ℕ) → i < length xs → passes (k + i) ≡ test (slice_index_or xs i d)) → filter passes (range_with_len k (length xs)) ≡ places_from k test xs
places_from_are test d k [] passes same = refl
places_from_are test d k (x ∷ xs) passes same =
    let rest = places_from_are test d (k + 1) xs passes (λ i low. let e : k + 1 + i ≡ k + suc i = omega arith in ap passes e ∙ same (suc i) (omega (arith, low))) in
    let first : passes k ≡ test x = ap passes (omega arith) ∙ same 0 (omega arith) in
    grind (arith, rest, first)

module _ {X : Type 0} (test : X → Bool) (xs : List X) (d : X) where
  abbrev passes : ℕ → Bool
  passes i = test (slice_index_or xs i d)

  places_are : filter passes (range_with_len 0 (length xs)) ≡ places_from 0 test xs
  places_are = places_from_are test d 0 xs passes (λ i low. let e : 0 + i ≡ i = omega arith in ap passes e)

  pub places_rise : IsNonDecreasingBy (λ k. k) (places_from 0 test xs)
  places_rise = subst (IsNonDecreasingBy (λ k. k)) places_are (IsNonDecreasingBy-filter (λ k. k) passes (range_with_len 0 (length xs)) (λ i j e le low.
      let inside : j < length xs = omega (arith, low, length-range_with_len 0 (length xs)) in
      omega (arith, le, get_or-range_with_len 0 (length xs) i e (omega (arith, le, inside)), get_or-range_with_len 0 (length xs) j e inside)))

pub places_many : {X : Type 0} (test : X → Bool) (k : ℕ) (xs : List X) → length (places_from k test xs) ≡ length (filter test xs)
places_many test k [] = refl
places_many test k (x ∷ xs) = grind (arith, places_many test (k + 1) xs)

-- ---- objects under tops

module _ (numbers order : List ℕ) where
  -- all objects stand in an order once
  pub in_order : (test : ℕ → Bool) (f : ℕ → ℕ) → ∥ IsOrderOf numbers order ∥₁ → sum_if (λ o. test (number_at numbers o)) f order ≡ sum_by f (places_from 0 test numbers)
  in_order test f ordered =
      let all = range_with_len 0 (length numbers) in
      ∥∥₁_elim ordered (hlevel ℕ_set) (λ is. sum_by-IsPermutation (λ o. cond (test (number_at numbers o)) (f o) 0) all order is.all) ∙ sym (rw (← places_are test numbers 0) (sum_filter (λ o. test (number_at numbers o)) f all))

  -- their types have numbers that do not fall
  pub rising : ∥ IsOrderOf numbers order ∥₁ → IsNonDecreasingBy (number_at numbers) order
  rising ordered = λ i j d le low. ∥∥₁_elim ordered (hlevel le_prop) (λ is. is.rising i j d le low)

  module _ (tops : List Span) where
    -- over those that are under so many tops
    abbrev pub sum_under : (ℕ → ℕ) → ℕ → ℕ
    sum_under f i = sum_if (λ o. some_holds (take i tops) (number_at numbers o)) f order

    pub none_under : (f : ℕ → ℕ) → 0 ≡ sum_under f 0
    none_under f = let zero : ℕ → ℕ = λ o. 0 in omega (arith, sum_two zero zero zero (λ o. refl) order)

    module _ (apart : AreApart tops) (i : ℕ) (low : i < length tops) where
      abbrev none : Span
      none = record { first = 0; last = 0 }

      abbrev top : Span
      top = slice_index_or tops i none

      no_other : (n : ℕ) → some_holds (take i tops) n ≡ true → holds top n ≡ true → ⊥
      no_other n before here =
          let (k, s, k_low, s_is, on) = Any-from_list_any (λ t. holds t n) (take i tops) before in
          let few = length-take-le i tops (omega (arith, low)) in
          let past = apart.behind k i (omega (arith, k_low, few)) low in
          let at : slice_index_or tops k none ≡ s = sym (get_or-take i tops k none (omega (arith, k_low, few))) ∙ get_or_default (take i tops) k none s k_low ∙ s_is in
          grind (arith, nat_tests, on, here, past, at)

      pub next_top : (f : ℕ → ℕ) → sum_under f (i + 1) ≡ sum_under f i + sum_if (λ o. holds top (number_at numbers o)) f order
      next_top f = sum_two _ _ _ (λ o. grind (arith, list_any_more (λ t. holds t (number_at numbers o)) tops i none low, no_other (number_at numbers o))) order

-- ---- a part of an order

-- behind the numbers below a span, as far as the numbers are not past it, are those in the span
module _ (n : ℕ → ℕ) (top : Span) (some : top.first ≤ top.last) where
  abbrev IsBelow : ℕ → List ℕ → ℕ → Type 0
  IsBelow number = IsPartitionPoint (λ x. ltb (n x) number ≡ true) (λ x. ltb (n x) number ≡ false)

  pub part_sum : (f : ℕ → ℕ) (xs : List ℕ) (start end : ℕ) → start ≤ length xs → IsBelow top.first xs start → IsBelow (top.last + 1) xs end
      → sum_by f (take (end - start) (drop start xs)) ≡ sum_if (λ x. holds top (n x)) f xs
  part_sum f xs start end within from to =
      let ordered : start ≤ end = grind (arith, nat_tests, from.0 end 0, to.1 end 0, some, within) in
      let rest = drop start xs in
      let many = end - start in
      let on : ℕ → ℕ = λ x. cond (holds top (n x)) (f x) 0 in
      let off : ℕ → ℕ = λ x. cond (not (holds top (n x))) (f x) 0 in
      let front = sum_by-le on 0 (take start xs) (λ i d low. grind (arith, nat_tests, from.0 i d, get_or-take start xs i d, length-take start xs, low)) in
      let middle = sum_by-le off 0 (take many rest) (λ i d low. grind (arith, nat_tests, from.1 (start + i) d, to.0 (start + i) d, get_or-take many rest i d, get_or-drop start xs i d, length-take many rest, length-drop start xs, low)) in
      let back = sum_by-le on 0 (drop many rest) (λ i d low. grind (arith, nat_tests, to.1 (start + (many + i)) d, get_or-drop many rest i d, get_or-drop start xs (many + i) d, length-drop many rest, length-drop start xs, low, ordered)) in
      omega (arith, front, middle, back, sum_by-take-drop on xs start, sum_by-take-drop on rest many, sum_two on off f (λ x. grind (arith, nat_tests)) (take many rest))
