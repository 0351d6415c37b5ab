-- An order in turn is, for each happening, its steps in some order.
use Rattle.std.proofs.Common.{◌≡◌, ℕ, ◌+◌, ◌≤◌, ◌<◌, Bool, true, false, not, ◌||◌, cond, List, [], ◌∷◌, ◌++◌, refl, sym, ap, ◌∙◌, arith, eqb, eq-eqb}
use Rattle.std.specs.Prelude.{Contains, sum_by, IsPermutation, filter, remove}
use Rattle.std.specs.List.{list_any, concat, IsDistinct, AllByRecursion}
use Rattle.std.proofs.lemmas.List.Sums.{sum_by-cons, sum_by-append}
use Rattle.std.proofs.lemmas.List.Sorted.{IsPermutation-refl, IsPermutation-sym, IsPermutation-trans, IsPermutation-cons, IsPermutation-remove, sum_by-IsPermutation, length_permutation}
use Rattle.std.proofs.lemmas.Bool.{eqb-true}
use Rattle.std.proofs.lemmas.Map.Views.{Contains-from_any}
use Rattle.pddl_happenings.proofs.Forms.{EachOnce, IsSerialisation}
use Rattle.pddl_happenings.proofs.Members.{Contains-cons, Contains-head, none_any}
use Rattle.pddl_happenings.proofs.Prefixes.{apart_parts, distinct_first, distinct_rest}
use Rattle.pddl_happenings.specs.Serialisations.{InTurn, IsSerialOrder, place_of}

-- how often k is listed
abbrev pub one : ℕ → ℕ → ℕ
one k x = cond (eqb k x) 1 0

abbrev pub copies : ℕ → List ℕ → ℕ
copies k xs = sum_by (one k) xs

pub one_same : (k : ℕ) → one k k ≡ 1
one_same k = rw (eq-eqb k k refl) refl

pub found : (k : ℕ) (xs : List ℕ) → 0 < copies k xs → Contains xs k
found k [] h = absurd (omega arith)
found k (x ∷ xs) h =
    elim (eqb k x) as (λ b. eqb k x ≡ b → 0 < cond b 1 0 + copies k xs → Contains (x ∷ xs) k) [
      | true ↦ λ e _. let is : k ≡ x = eqb-true k x e in rw is (Contains-head x xs)
      | false ↦ λ _ p. Contains-cons x xs k (found k xs (omega arith))
    ] refl (rw (← sum_by-cons (one k) x xs) h)

pub not_listed : (k : ℕ) (xs : List ℕ) → list_any (eqb k) xs ≡ false → copies k xs ≡ 0
not_listed k [] h = refl
not_listed k (x ∷ xs) h =
    elim (eqb k x) as (λ b. (b || list_any (eqb k) xs) ≡ false → eqb k x ≡ b → copies k (x ∷ xs) ≡ 0) [
      | true ↦ λ p _. cc
      | false ↦ λ p e. sum_by-cons (one k) x xs ∙ (ap (λ b. cond b 1 0 + copies k xs) e ∙ omega (arith, not_listed k xs p))
    ] h refl

-- lists that have each number as often are permutations
pub from_copies : (xs ys : List ℕ) → ((k : ℕ) → copies k xs ≡ copies k ys) → IsPermutation xs ys
from_copies [] [] same = IsPermutation-refl []
from_copies [] (y ∷ ys) same =
    absurd (omega (arith, same y, sum_by-cons (one y) y ys, one_same y))
from_copies (x ∷ xs) ys same =
    let c : Contains ys x = found x ys (omega (arith, same x, sum_by-cons (one x) x xs, one_same x)) in
    let moved : IsPermutation ys (x ∷ remove ys c.0) = IsPermutation-remove ys c.0 x c.1 (sym c.2) in
    let rest : IsPermutation xs (remove ys c.0) = from_copies xs (remove ys c.0) (λ k.
    omega (arith, same k, sum_by-cons (one k) x xs, sum_by-IsPermutation (one k) ys (x ∷ remove ys c.0) moved, sum_by-cons (one k) x (remove ys c.0))) in
    IsPermutation-trans (x ∷ xs) (x ∷ remove ys c.0) ys (IsPermutation-cons x xs (remove ys c.0) rest) (IsPermutation-sym ys (x ∷ remove ys c.0) moved)

module _ (p : ℕ → Bool) where
  abbrev others : ℕ → Bool
  others k = not (p k)

  kept_any : (k : ℕ) → p k ≡ false → (xs : List ℕ) → list_any (eqb k) (filter p xs) ≡ false
  kept_any k off [] = refl
  kept_any k off (x ∷ xs) =
      elim (p x) as (λ b. p x ≡ b → list_any (eqb k) (cond b (x ∷ filter p xs) (filter p xs)) ≡ false) [
        | true ↦ λ e. elim (eqb k x) as (λ b. eqb k x ≡ b → (b || list_any (eqb k) (filter p xs)) ≡ false) [
          | true ↦ λ t. let is : k ≡ x = eqb-true k x t in let pk : p k ≡ p x = ap p is in cc
          | false ↦ λ _. kept_any k off xs
        ] refl
        | false ↦ λ _. kept_any k off xs
      ] refl

  none_kept : (ks : List ℕ) → AllByRecursion (λ j. p j ≡ false) ks → (filter p ks ≡ []) × (filter others ks ≡ ks)
  none_kept [] all = (refl, refl)
  none_kept (k ∷ ks) all =
      let rest = none_kept ks all.1 in
      (rw all.0 rest.0, rw all.0 (ap (λ l. k ∷ l) rest.1))

  -- places are 0 where p passes, and larger elsewhere
  module _ (place : ℕ → ℕ) (front : (k : ℕ) → p k ≡ true → place k ≡ 0) (back : (k : ℕ) → p k ≡ false → 0 < place k) where
    later_off : (k : ℕ) (ks : List ℕ) → 0 < place k → AllByRecursion (λ j. place k ≤ place j) ks → AllByRecursion (λ j. p j ≡ false) ks
    later_off k [] h all = tt
    later_off k (j ∷ js) h all =
        (elim (p j) as (λ b. p j ≡ b → b ≡ false) [ true ↦ λ e. absurd (omega (arith, front j e, all.0, h)) | false ↦ λ _. refl ] refl, later_off k js h all.1)

    parted : (ks : List ℕ) → InTurn place ks → ks ≡ filter p ks ++ filter others ks
    parted [] turn = refl
    parted (k ∷ ks) turn =
        elim (p k) as (λ b. p k ≡ b → (k ∷ ks) ≡ cond b (k ∷ filter p ks) (filter p ks) ++ cond (not b) (k ∷ filter others ks) (filter others ks)) [
          | true ↦ λ _. ap (λ l. k ∷ l) (parted ks turn.1)
          | false ↦ λ e. let none = none_kept ks (later_off k ks (back k e) turn.0) in rw (none.0, none.1) refl
        ] refl

  module _ (place next : ℕ → ℕ) (up : (k : ℕ) → p k ≡ false → place k ≡ 1 + next k) where
    all_next : (k : ℕ) → p k ≡ false → (ks : List ℕ) → AllByRecursion (λ j. place k ≤ place j) ks → AllByRecursion (λ j. next k ≤ next j) (filter others ks)
    all_next k off [] all = tt
    all_next k off (j ∷ js) all =
        elim (p j) as (λ b. p j ≡ b → AllByRecursion (λ j. next k ≤ next j) (cond (not b) (j ∷ filter others js) (filter others js))) [
          | true ↦ λ _. all_next k off js all.1
          | false ↦ λ e. (omega (arith, up k off, up j e, all.0), all_next k off js all.1)
        ] refl

    turn_next : (ks : List ℕ) → InTurn place ks → InTurn next (filter others ks)
    turn_next [] turn = tt
    turn_next (k ∷ ks) turn =
        elim (p k) as (λ b. p k ≡ b → InTurn next (cond (not b) (k ∷ filter others ks) (filter others ks))) [
          | true ↦ λ _. turn_next ks turn.1
          | false ↦ λ e. (all_next k e ks turn.0, turn_next ks turn.1)
        ] refl

pub listed_once : (k : ℕ) (xs ys : List ℕ) → IsDistinct eqb (xs ++ ys) → list_any (eqb k) xs ≡ true → list_any (eqb k) ys ≡ false
listed_once k xs ys once h = none_any (eqb k) ys (λ j c.
    elim (eqb k j) as (λ b. eqb k j ≡ b → b ≡ false) [
      | true ↦ λ e. absurd (apart_parts xs ys once k j (Contains-from_any (λ x y t. eqb-true x y t) k xs h) c (eqb-true k j e))
      | false ↦ λ _. refl
    ] refl)

-- what the definition in the words of the task gives: for each happening in turn, its steps in some order
pub serialisation_from_order : (hs : List (List ℕ)) (order : List ℕ) → IsDistinct eqb (concat hs) → IsSerialOrder hs order → IsSerialisation hs order
serialisation_from_order [] [] once is = refl
serialisation_from_order [] (k ∷ ks) once is = absurd (omega (arith, length_permutation [] (k ∷ ks) is.each_once))
serialisation_from_order (h ∷ hs) order once is =
    let p : ℕ → Bool = λ k. list_any (eqb k) h in
    let q : ℕ → Bool = λ k. not (p k) in
    let place : ℕ → ℕ = place_of (h ∷ hs) in
    let order_is : order ≡ filter p order ++ filter q order =
    parted p place (λ k e. ap (λ b. cond b 0 (1 + place_of hs k)) e) (λ k e. rw e (omega arith)) order is.in_turn in
    let counts : (k : ℕ) → copies k (filter p order) + copies k (filter q order) ≡ copies k h + copies k (concat hs) = λ k.
    sym (sum_by-append (one k) (filter p order) (filter q order)) ∙ (ap (copies k) (sym order_is) ∙ (sum_by-IsPermutation (one k) (h ++ concat hs) order is.each_once ∙ sum_by-append (one k) h (concat hs))) in
    let each : (k : ℕ) → (copies k h ≡ copies k (filter p order)) × (copies k (concat hs) ≡ copies k (filter q order)) = λ k.
    elim (p k) as (λ b. p k ≡ b → (copies k h ≡ copies k (filter p order)) × (copies k (concat hs) ≡ copies k (filter q order))) [
      | true ↦ λ e.
          let away : copies k (concat hs) ≡ 0 = not_listed k (concat hs) (listed_once k h (concat hs) once e) in
          let gone : copies k (filter q order) ≡ 0 = not_listed k (filter q order) (kept_any q k (ap not e) order) in
          (omega (arith, counts k, away, gone), omega (arith, away, gone))
      | false ↦ λ e.
          let away : copies k h ≡ 0 = not_listed k h e in
          let gone : copies k (filter p order) ≡ 0 = not_listed k (filter p order) (kept_any p k e order) in
          (omega (arith, away, gone), omega (arith, counts k, away, gone))
    ] refl in (
      filter p order,
      filter q order,
      order_is,
      from_copies h (filter p order) (λ k. (each k).0),
      serialisation_from_order hs (filter q order) (distinct_rest h (concat hs) once) (record {
        each_once = from_copies (concat hs) (filter q order) (λ k. (each k).1);
        in_turn = turn_next p place (place_of hs) (λ k e. ap (λ b. cond b 0 (1 + place_of hs k)) e) order is.in_turn;
      }),
    )

pub each_once : (hs : List (List ℕ)) → IsDistinct eqb (concat hs) → EachOnce hs
each_once [] once = tt
each_once (h ∷ hs) once = (distinct_first h (concat hs) once, each_once hs (distinct_rest h (concat hs) once))
