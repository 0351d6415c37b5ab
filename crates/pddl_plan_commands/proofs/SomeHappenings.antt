-- Linked steps have happenings.
use Rattle.std.proofs.Common.{◌≡◌, ◌<◌, ℕ, Bool, true, false, ◌||◌, cond, List, [], ◌∷◌, map, length, eqb, nat_lt, refl, sym, ap, ◌∙◌, arith, inl, inr, true≢false}
use Rattle.std.specs.Prelude.{Option, Some, None, is_some}
use Rattle.std.specs.List.{list_any, AllByRecursion}
use Rattle.std.specs.List.Sorted.{IsStrictlySortedBy}
use Rattle.std.specs.Ordering.{nat_cmp}
use Rattle.std.specs.Cmp.{ranked, nat_cmp_is}
use Rattle.std.specs.declared.cmp.Ordering.TheVariants.{Less}
use Rattle.std.proofs.lemmas.Bool.{eqb-true}
use Rattle.std.proofs.lemmas.Bool.Decides.{nat_tests}
use Rattle.std.proofs.lemmas.List.Elements.{All-nil}
use Rattle.pddl_happenings.specs.Happenings.{AreMoments, plain_happenings, steps_at}
use Rattle.pddl_linked_plan.specs.LinkedLaws.{HaveAlikeMoments}
use Rattle.pddl_linked_plan.specs.LinkedSteps.{LinkedStepValue}
use Rattle.pddl_plan_steps.specs.AcceptedPlans.{moments_in, AreHappeningsOf}

less : (m n : ℕ) → m < n → nat_cmp m n ≡ Less
less m n h = sym (nat_cmp_is m n Less h)

below : (m n : ℕ) → nat_cmp m n ≡ Less → m < n
below m n h = ranked m n Less (sym h)

-- a moment among others in rising order, which have it once
abbrev insert : ℕ → List ℕ → List ℕ
insert m [] = m ∷ []
insert m (x ∷ xs) = cond (eqb m x) (x ∷ xs) (cond (nat_lt m x) (m ∷ x ∷ xs) (x ∷ insert m xs))

any_head : (m x : ℕ) (xs : List ℕ) (k : ℕ) → (list_any (eqb k) (insert m xs) ≡ (eqb k m || list_any (eqb k) xs)) → (b c : Bool) → eqb m x ≡ b → list_any (eqb k) (cond b (x ∷ xs) (cond c (m ∷ x ∷ xs) (x ∷ insert m xs))) ≡ (eqb k m || (eqb k x || list_any (eqb k) xs))
any_head m x xs k rest true c is =
    let same : eqb k m ≡ eqb k x = ap (eqb k) (eqb-true m x is) in
    grind (arith, same)
any_head m x xs k rest false true is = refl
any_head m x xs k rest false false is = grind (arith, rest)

any_insert : (m : ℕ) (xs : List ℕ) (k : ℕ) → list_any (eqb k) (insert m xs) ≡ (eqb k m || list_any (eqb k) xs)
any_insert m [] k = refl
any_insert m (x ∷ xs) k = any_head m x xs k (any_insert m xs k) (eqb m x) (nat_lt m x) refl

abbrev After : ℕ → List ℕ → Type 0
After z xs = AllByRecursion (λ y. nat_cmp z y ≡ Less) xs

after_insert : (z m : ℕ) (xs : List ℕ) → nat_cmp z m ≡ Less → After z xs → After z (insert m xs)
after_insert z m [] first all = (first, tt)
after_insert z m (x ∷ xs) first all = elim (eqb m x) as (λ b. After z (cond b (x ∷ xs) (cond (nat_lt m x) (m ∷ x ∷ xs) (x ∷ insert m xs)))) [
  | true ↦ all
  | false ↦ elim (nat_lt m x) as (λ c. After z (cond c (m ∷ x ∷ xs) (x ∷ insert m xs))) [
    | true ↦ (first, all)
    | false ↦ (all.0, after_insert z m xs first all.1)
  ]
]

wider : (m x : ℕ) (xs : List ℕ) → m < x → After x xs → After m xs
wider m x [] low all = tt
wider m x (y ∷ ys) low all = (let next : x < y = below x y all.0 in less m y (omega arith), wider m x ys low all.1)

rising_insert : (m : ℕ) (xs : List ℕ) → IsStrictlySortedBy nat_cmp xs → IsStrictlySortedBy nat_cmp (insert m xs)
unfolding IsStrictlySortedBy
rising_insert m [] rising = (tt, tt)
rising_insert m (x ∷ xs) rising = elim (eqb m x) as (λ b. eqb m x ≡ b → IsStrictlySortedBy nat_cmp (cond b (x ∷ xs) (cond (nat_lt m x) (m ∷ x ∷ xs) (x ∷ insert m xs)))) [
  | true ↦ λ is. rising
  | false ↦ λ other. elim (nat_lt m x) as (λ c. nat_lt m x ≡ c → IsStrictlySortedBy nat_cmp (cond c (m ∷ x ∷ xs) (x ∷ insert m xs))) [
    | true ↦ λ low. let lt : m < x = grind (arith, nat_tests) in ((less m x lt, wider m x xs lt rising.0), rising)
    | false ↦ λ high. let gt : x < m = grind (arith, nat_tests) in (after_insert x m xs (less x m gt) rising.0, rising_insert m xs rising.1)
  ] refl
] refl

-- the distinct ones of some moments, in rising order
abbrev distinct : List ℕ → List ℕ
distinct [] = []
distinct (m ∷ ms) = insert m (distinct ms)

distinct_rise : (ms : List ℕ) → IsStrictlySortedBy nat_cmp (distinct ms)
unfolding IsStrictlySortedBy
distinct_rise [] = tt
distinct_rise (m ∷ ms) = rising_insert m (distinct ms) (distinct_rise ms)

any_distinct : (ms : List ℕ) (k : ℕ) → list_any (eqb k) (distinct ms) ≡ list_any (eqb k) ms
any_distinct [] k = refl
any_distinct (m ∷ ms) k = any_insert m (distinct ms) k ∙ ap (λ b. eqb k m || b) (any_distinct ms k)

pub moments_are : (ms : List ℕ) → AreMoments ms (distinct ms)
moments_are ms = record { rising = distinct_rise ms; same = any_distinct ms }

-- ---- happenings of linked steps

no_steps : AreHappeningsOf [] [] []
unfolding IsStrictlySortedBy
no_steps = record {
  timed = λ _. record { moments = []; are = record { rising = tt; same = λ m. refl }; moments_are = refl; steps_are = refl };
  plain = λ _. record { no_moments = All-nil (λ m. m ≡ None); steps_are = refl };
}

plain_steps : (steps : List LinkedStepValue) → AllByRecursion (λ s. s.moment ≡ None) steps → (at : List (Option ℕ)) × (gs : List (List ℕ)) × AreHappeningsOf steps at gs
plain_steps [] none = ([], [], no_steps)
plain_steps (s ∷ steps) none = (
  [],
  plain_happenings (length (s ∷ steps)),
  record {
    timed = λ some. absurd (true≢false (sym some.0 ∙ ap is_some none.0));
    plain = λ _. record { no_moments = All-nil (λ m. m ≡ None); steps_are = refl };
  },
)

timed_steps : (steps : List LinkedStepValue) → AllByRecursion (λ s. is_some s.moment ≡ true) steps → (at : List (Option ℕ)) × (gs : List (List ℕ)) × AreHappeningsOf steps at gs
timed_steps [] some = ([], [], no_steps)
timed_steps (s ∷ steps) some =
    let ms = moments_in (s ∷ steps) in (
      map (λ m. Some m) (distinct ms),
      map (steps_at ms) (distinct ms),
      record {
        timed = λ _. record { moments = distinct ms; are = moments_are ms; moments_are = refl; steps_are = refl };
        plain = λ none. absurd (true≢false (sym some.0 ∙ ap is_some none.0));
      },
    )

pub some_happenings : (steps : List LinkedStepValue) → HaveAlikeMoments steps → (at : List (Option ℕ)) × (gs : List (List ℕ)) × AreHappeningsOf steps at gs
some_happenings steps (inl none) = plain_steps steps none
some_happenings steps (inr some) = timed_steps steps some
