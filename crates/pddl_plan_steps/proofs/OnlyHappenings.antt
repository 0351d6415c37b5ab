-- The happenings of linked steps are the only ones.
use Rattle.std.proofs.Common.{◌≡◌, ◌<◌, ◌+◌, ℕ, Bool, true, false, ◌||◌, List, [], ◌∷◌, ◌++◌, map, take, length, eqb, eq-eqb, refl, sym, ap, ◌∙◌, subst, arith, inl, inr}
use Rattle.std.specs.Prelude.{◌⊎◌, Option, Some, None, is_some, slice_get}
use Rattle.std.specs.List.{list_any, AllByRecursion}
use Rattle.std.specs.List.Sorted.{IsStrictlySortedBy}
use Rattle.std.specs.Ordering.{nat_cmp}
use Rattle.std.specs.Option.{option_map, option_map_or, unwrap_or}
use Rattle.std.proofs.lemmas.List.{take_more}
use Rattle.std.proofs.lemmas.Option.{get_or_from_slice_get, slice_get-map, slice_get_within}
use Rattle.std.specs.Cmp.{ranked}
use Rattle.std.specs.declared.cmp.Ordering.TheVariants.{Less}
use Rattle.std.proofs.lemmas.Bool.{eqb-true, true≢false}
use Rattle.pddl_happenings.proofs.TimedHappenings.{all_weaker, unequal}
use Rattle.pddl_happenings.proofs.Copies.{absent}
use Rattle.pddl_happenings.specs.Happenings.{AreOfTimed, AreOfPlain, steps_at}
use Rattle.pddl_linked_plan.specs.LinkedSteps.{LinkedStepValue}
use Rattle.pddl_linked_plan.specs.LinkedLaws.{HaveAlikeMoments}
use Rattle.pddl_plan_steps.specs.AcceptedPlans.{moments_in, AreHappeningsOf, OfHappenings}

-- ---- lists in rising order

-- two of the same numbers are one
module _ (x : ℕ) (xs : List ℕ) where
  first_not_again : IsStrictlySortedBy nat_cmp (x ∷ xs) → list_any (eqb x) xs ≡ false
  unfolding IsStrictlySortedBy
  first_not_again rising = absent x xs (all_weaker (λ y. nat_cmp x y ≡ Less) (λ y. eqb x y ≡ false) (λ y less. unequal x y (λ is. apart y less is)) xs rising.0)
    where
      apart : (y : ℕ) → nat_cmp x y ≡ Less → x ≡ y → ⊥
      apart y less is = let lt : x < y = ranked x y Less (sym less) in absurd (omega (arith, lt, is))

  others_later : (y : ℕ) → IsStrictlySortedBy nat_cmp (x ∷ xs) → list_any (eqb y) xs ≡ true → x < y
  unfolding IsStrictlySortedBy
  others_later y rising on = at xs rising.0 on
    where
      at : (zs : List ℕ) → AllByRecursion (λ z. nat_cmp x z ≡ Less) zs → list_any (eqb y) zs ≡ true → x < y
      at [] all on = absurd (true≢false (sym on))
      at (z ∷ zs) all on = elim (eqb y z) as (λ b. eqb y z ≡ b → (b || list_any (eqb y) zs) ≡ true → x < y) [
        | true ↦ λ e _. let is : y ≡ z = eqb-true y z e in let lt : x < z = ranked x z Less (sym all.0) in omega (arith, is, lt)
        | false ↦ λ _ on. at zs all.1 on
      ] refl on

rising_rest : (x : ℕ) (xs : List ℕ) → IsStrictlySortedBy nat_cmp (x ∷ xs) → IsStrictlySortedBy nat_cmp xs
unfolding IsStrictlySortedBy
rising_rest x xs rising = rising.1

pub rising_once : (xs ys : List ℕ) → IsStrictlySortedBy nat_cmp xs → IsStrictlySortedBy nat_cmp ys → ((m : ℕ) → list_any (eqb m) xs ≡ list_any (eqb m) ys) → xs ≡ ys
rising_once [] [] rx ry same = refl
rising_once [] (y ∷ ys) rx ry same = absurd (true≢false (sym (same y ∙ ap (λ b. b || list_any (eqb y) ys) (eq-eqb y y refl))))
rising_once (x ∷ xs) [] rx ry same = absurd (true≢false (sym (ap (λ b. b || list_any (eqb x) xs) (eq-eqb x x refl)) ∙ same x))
rising_once (x ∷ xs) (y ∷ ys) rx ry same = ap (λ z. z ∷ xs) first ∙ ap (λ zs. y ∷ zs) (rising_once xs ys (rising_rest x xs rx) (rising_rest y ys ry) rest)
  where
    either : (a b : ℕ) (zs : List ℕ) → list_any (eqb a) (b ∷ zs) ≡ true → (a ≡ b) ⊎ (list_any (eqb a) zs ≡ true)
    either a b zs on = elim (eqb a b) as (λ t. eqb a b ≡ t → (t || list_any (eqb a) zs) ≡ true → (a ≡ b) ⊎ (list_any (eqb a) zs ≡ true)) [
      | true ↦ λ e _. inl (eqb-true a b e)
      | false ↦ λ _ on. inr on
    ] refl on

    itself : (a : ℕ) (zs : List ℕ) → list_any (eqb a) (a ∷ zs) ≡ true
    itself a zs = ap (λ b. b || list_any (eqb a) zs) (eq-eqb a a refl)

    first : x ≡ y
    first = elim (either x y ys (sym (same x) ∙ itself x xs)) [
      | inl is ↦ is
      | inr later ↦ elim (either y x xs (same y ∙ itself y ys)) [
        | inl is ↦ sym is
        | inr after ↦
            let up : y < x = others_later y ys x ry later in
            let down : x < y = others_later x xs y rx after in
            absurd (omega (arith, up, down))
      ]
    ]

    rest : (m : ℕ) → list_any (eqb m) xs ≡ list_any (eqb m) ys
    rest m = elim (eqb m x) as (λ b. eqb m x ≡ b → list_any (eqb m) xs ≡ list_any (eqb m) ys) [
      | true ↦ λ e.
          let is : m ≡ x = eqb-true m x e in
          ap (λ k. list_any (eqb k) xs) is ∙ first_not_again x xs rx ∙ sym (ap (λ k. list_any (eqb k) ys) (is ∙ first) ∙ first_not_again y ys ry)
      | false ↦ λ e.
          let other : eqb m y ≡ false = sym (ap (eqb m) first) ∙ e in
          sym (ap (λ b. b || list_any (eqb m) xs) e) ∙ same m ∙ ap (λ b. b || list_any (eqb m) ys) other
    ] refl

-- ---- moments

pub moment_more : (steps : List LinkedStepValue) (k : ℕ) (s : LinkedStepValue) → slice_get steps k ≡ Some s → take (k + 1) (moments_in steps) ≡ take k (moments_in steps) ++ unwrap_or s.moment 0 ∷ []
moment_more steps k s is =
    let here : slice_get (moments_in steps) k ≡ Some (unwrap_or s.moment 0) = slice_get-map (λ (t : LinkedStepValue). unwrap_or t.moment 0) steps k ∙ ap (option_map (λ (t : LinkedStepValue). unwrap_or t.moment 0)) is in
    take_more (moments_in steps) k 0 (slice_get_within (moments_in steps) k (unwrap_or s.moment 0) here)
    ∙ ap (λ n. take k (moments_in steps) ++ n ∷ []) (get_or_from_slice_get (moments_in steps) k (unwrap_or s.moment 0) 0 here)

-- ---- happenings

pub timed_once : (ms : List ℕ) (at bt : List (Option ℕ)) (gs hs : List (List ℕ)) → AreOfTimed ms at gs → AreOfTimed ms bt hs → gs ≡ hs
timed_once ms at bt gs hs one other =
    one.steps_are ∙ ap (map (steps_at ms)) (rising_once one.moments other.moments one.are.rising other.are.rising (λ m. one.are.same m ∙ sym (other.are.same m))) ∙ sym other.steps_are

pub plain_once : (n : ℕ) (at bt : List (Option ℕ)) (gs hs : List (List ℕ)) → AreOfPlain n at gs → AreOfPlain n bt hs → gs ≡ hs
plain_once n at bt gs hs one other = one.steps_are ∙ sym other.steps_are

pub happenings_once : (steps : List LinkedStepValue) → HaveAlikeMoments steps → (at bt : List (Option ℕ)) (gs hs : List (List ℕ)) → AreHappeningsOf steps at gs → AreHappeningsOf steps bt hs → gs ≡ hs
happenings_once steps (inl none) at bt gs hs one other = plain_once (length steps) at bt gs hs (one.plain none) (other.plain none)
happenings_once steps (inr some) at bt gs hs one other = timed_once (moments_in steps) at bt gs hs (one.timed some) (other.timed some)

-- what holds of some happenings of a plan holds of them all
pub of_happenings : (steps : List LinkedStepValue) → HaveAlikeMoments steps → (at : List (Option ℕ)) (gs : List (List ℕ)) → AreHappeningsOf steps at gs → (P : List (List ℕ) → Type 0) → P gs → OfHappenings steps P
of_happenings steps alike at gs are P holds bt hs others = subst P (happenings_once steps alike at bt gs hs are others) holds

-- ---- of steps whose first says whether they have moments
module _ (steps : List LinkedStepValue) where
  abbrev first_has : Bool
  first_has = option_map_or (λ s. is_some s.moment) (slice_get steps 0) false

first_timed : (steps : List LinkedStepValue) → AllByRecursion (λ s. s.moment ≡ None) steps → first_has steps ≡ false
first_timed [] none = refl
first_timed (s ∷ steps) none = ap is_some none.0

none_timed : (steps : List LinkedStepValue) → AllByRecursion (λ s. is_some s.moment ≡ true) steps → first_has steps ≡ false → steps ≡ []
none_timed [] some off = refl
none_timed (s ∷ steps) some off = absurd (true≢false (sym some.0 ∙ off))

-- of a plan without steps there are none
no_happenings : (at : List (Option ℕ)) (gs : List (List ℕ)) → length at ≡ length gs → AreOfPlain 0 at gs → AreOfTimed [] at gs
unfolding IsStrictlySortedBy
no_happenings [] gs long plain = record {
  moments = [];
  are = record { rising = tt; same = λ m. refl };
  moments_are = refl;
  steps_are = plain.steps_are;
}
no_happenings (m ∷ at) gs long plain = let more : length (m ∷ at) ≡ 0 = long ∙ ap length plain.steps_are in absurd (cc more)

pub timed_are : (steps : List LinkedStepValue) (at : List (Option ℕ)) (gs : List (List ℕ)) → first_has steps ≡ true → AreOfTimed (moments_in steps) at gs → AreHappeningsOf steps at gs
timed_are steps at gs on are = record { timed = λ some. are; plain = λ none. absurd (true≢false (sym on ∙ first_timed steps none)) }

pub plain_are : (steps : List LinkedStepValue) (at : List (Option ℕ)) (gs : List (List ℕ)) → length at ≡ length gs → first_has steps ≡ false → AreOfPlain (length steps) at gs → AreHappeningsOf steps at gs
plain_are steps at gs long off are = record {
  timed = λ some.
      let empty : steps ≡ [] = none_timed steps some off in
      subst (λ l. AreOfTimed (moments_in l) at gs) (sym empty) (no_happenings at gs long (subst (λ l. AreOfPlain (length l) at gs) empty are));
  plain = λ none. are;
}
