-- Serialisations: the happenings in turn are one, and the form by happenings gives the form in the words of the task.
use Rattle.std.proofs.Common.{◌≡◌, ℕ, ◌+◌, ◌≤◌, Bool, true, false, ◌||◌, cond, List, [], ◌∷◌, ◌++◌, refl, sym, ap, ◌∙◌, arith, eqb, eq-eqb}
use Rattle.std.specs.Prelude.{IsPermutation}
use Rattle.std.specs.List.{list_any, concat, IsDistinct, AllByRecursion}
use Rattle.std.proofs.lemmas.Bool.{true≢false}
use Rattle.std.proofs.lemmas.List.Sorted.{IsPermutation-refl, IsPermutation-append, list_any-IsPermutation}
use Rattle.pddl_happenings.proofs.Forms.{IsSerialisation}
use Rattle.pddl_happenings.proofs.Prefixes.{distinct_rest}
use Rattle.pddl_happenings.proofs.Serialisations.{listed_once}
use Rattle.pddl_happenings.proofs.TimedHappenings.{all_weaker}
use Rattle.pddl_happenings.specs.Serialisations.{InTurn, IsSerialOrder, place_of}

pub or_true : (a b : Bool) → b ≡ true → (a || b) ≡ true
or_true true b e = refl
or_true false b e = e

-- each element is listed
pub self_listed : (xs : List ℕ) → AllByRecursion (λ k. list_any (eqb k) xs ≡ true) xs
self_listed [] = tt
self_listed (x ∷ xs) = (ap (λ b. b || list_any (eqb x) xs) (eq-eqb x x refl), all_weaker (λ k. list_any (eqb k) xs ≡ true) (λ k. list_any (eqb k) (x ∷ xs) ≡ true) (λ k e. or_true (eqb k x) (list_any (eqb k) xs) e) xs (self_listed xs))

-- what holds of each listed number holds of each of a permutation
pub all_listed : (P : ℕ → Type 0) (xs ys : List ℕ) → IsPermutation ys xs → ((k : ℕ) → list_any (eqb k) ys ≡ true → P k) → AllByRecursion P xs
all_listed P xs ys moved each = all_weaker (λ k. list_any (eqb k) xs ≡ true) P (λ k e. each k (list_any-IsPermutation (eqb k) ys xs moved ∙ e)) xs (self_listed xs)

module _ (place : ℕ → ℕ) where
  at_front : (k : ℕ) → place k ≡ 0 → (ys : List ℕ) → AllByRecursion (λ j. place k ≤ place j) ys
  at_front k e [] = tt
  at_front k e (y ∷ ys) = (omega (arith, e), at_front k e ys)

  front_turn : (xs ys : List ℕ) → AllByRecursion (λ k. place k ≡ 0) xs → InTurn place ys → InTurn place (xs ++ ys)
  front_turn [] ys all turn = turn
  front_turn (x ∷ xs) ys all turn = (at_front x all.0 (xs ++ ys), front_turn xs ys all.1 turn)

  module _ (next : ℕ → ℕ) where
    all_later : (k : ℕ) → place k ≡ 1 + next k → (ys : List ℕ) → AllByRecursion (λ j. place j ≡ 1 + next j) ys → AllByRecursion (λ j. next k ≤ next j) ys → AllByRecursion (λ j. place k ≤ place j) ys
    all_later k e [] up all = tt
    all_later k e (y ∷ ys) up all = (omega (arith, e, up.0, all.0), all_later k e ys up.1 all.1)

    later_turn : (ys : List ℕ) → AllByRecursion (λ j. place j ≡ 1 + next j) ys → InTurn next ys → InTurn place ys
    later_turn [] up turn = tt
    later_turn (y ∷ ys) up turn = (all_later y up.0 ys up.1 turn.0, later_turn ys up.1 turn.1)

pub not_first : (k : ℕ) (h rest : List ℕ) → IsDistinct eqb (h ++ rest) → list_any (eqb k) rest ≡ true → list_any (eqb k) h ≡ false
not_first k h rest once on = elim (list_any (eqb k) h) as (λ b. list_any (eqb k) h ≡ b → b ≡ false) [
  | true ↦ λ e. absurd (true≢false (sym on ∙ listed_once k h rest once e))
  | false ↦ λ _. refl
] refl

-- the form by happenings gives the one in the words of the task
pub order_from_serialisation : (hs : List (List ℕ)) (order : List ℕ) → IsDistinct eqb (concat hs) → IsSerialisation hs order → IsSerialOrder hs order
order_from_serialisation [] order once is = rw is (record { each_once = IsPermutation-refl []; in_turn = tt })
order_from_serialisation (h ∷ hs) order once (first, rest, is, moved, more) =
    let place : ℕ → ℕ = place_of (h ∷ hs) in
    let after : IsSerialOrder hs rest = order_from_serialisation hs rest (distinct_rest h (concat hs) once) more in
    let front : AllByRecursion (λ k. place k ≡ 0) first = all_listed (λ k. place k ≡ 0) first h moved (λ k e. ap (λ b. cond b 0 (1 + place_of hs k)) e) in
    let back : AllByRecursion (λ k. place k ≡ 1 + place_of hs k) rest = all_listed (λ k. place k ≡ 1 + place_of hs k) rest (concat hs) after.each_once (λ k e. ap (λ b. cond b 0 (1 + place_of hs k)) (not_first k h (concat hs) once e)) in
    rw is (record {
      each_once = IsPermutation-append h first (concat hs) rest moved after.each_once;
      in_turn = front_turn place first rest front (later_turn place (place_of hs) rest back after.in_turn);
    })
