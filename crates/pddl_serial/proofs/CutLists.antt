-- Lists cut into groups.
use Rattle.std.proofs.Common.{◌≡◌, ℕ, zero, suc, ◌+◌, ◌-◌, ◌*◌, ◌/◌, ◌≤◌, ◌<◌, true, ◌||◌, List, [], ◌∷◌, ◌++◌, map, refl, sym, ap, ◌∙◌, arith, length, take, drop, eqb, subst, append_assoc, append-nil, length-append, min, ⊎_elim}
use Rattle.std.specs.List.{list_any, list_all, concat, IsDistinct, AllByRecursion}
use Rattle.std.proofs.Math.Nat.{div-eq-sub-div, div-eq_of_lt}
use Rattle.std.proofs.lemmas.Bool.{cases_lt}
use Rattle.std.proofs.lemmas.List.Folds.{concat-append}
use Rattle.std.proofs.Math.Seq.{drop-append_seam, take-append_seam}
use Rattle.std.proofs.lemmas.List.{drop-drop, drop_all, length-drop, map-append, nil_from_length, take-append-drop, take_all}
use Rattle.pddl_happenings.proofs.Cut.{back_of}
use Rattle.pddl_happenings.proofs.Prefixes.{front_of}
use Rattle.pddl_happenings.proofs.TurnsTaken.{all_listed, or_true}
use Rattle.pddl_happenings.specs.Happenings.{numbers_to}
use Rattle.pddl_happenings.specs.Serialisations.{IsSerialOrder}
use Rattle.pddl_happenings.specs.Splits.{IsSplitOf, within_one}
use Rattle.pddl_serial.proofs.AtOne.{all_true}
use Rattle.pddl_serial.proofs.InTurn.{is_serial, same_steps}
use Rattle.pddl_serial.specs.Cuts.{cut, cut_in_order, group_count}
use Rattle.pddl_serial.specs.Orders.{in_order, steps_in}
use Rattle.pddl_serial.specs.declared.turns.Order.{Order}

-- ---- one group, and the rest
one_more : (n m : ℕ) → 0 < n → 0 < m → group_count n m ≡ suc (group_count n (m - n))
one_more n m pos some =
    let large : n ≤ m + (n - 1) = omega (arith, pos, some) in
    let first : (m + (n - 1)) / n ≡ ((m + (n - 1)) - n) / n + 1 = div-eq-sub-div pos large in
    ⊎_elim
    (λ (short : m < n).
    let a : ((m + (n - 1)) - n) < n = omega (arith, pos, some, short) in
    let b : ((m - n) + (n - 1)) < n = omega (arith, pos, some, short) in
    let p : ((m + (n - 1)) - n) / n ≡ 0 = div-eq_of_lt a in
    let q : ((m - n) + (n - 1)) / n ≡ 0 = div-eq_of_lt b in
    omega (arith, first, p, q))
    (λ (long : n ≤ m).
    let same : (m + (n - 1)) - n ≡ (m - n) + (n - 1) = omega (arith, pos, some, long) in
    let p : ((m + (n - 1)) - n) / n ≡ ((m - n) + (n - 1)) / n = ap (λ k. k / n) same in
    omega (arith, first, p))
    (cases_lt m n)

moved : (n i c : ℕ) (xs : List ℕ) → map (λ k. take n (drop (k * n) xs)) (numbers_to (i + 1) c) ≡ map (λ k. take n (drop (k * n) (drop n xs))) (numbers_to i c)
moved n i zero xs = refl
moved n i (suc c) xs =
    let at : n + i * n ≡ (i + 1) * n = omega arith in
    let head : take n (drop ((i + 1) * n) xs) ≡ take n (drop (i * n) (drop n xs)) = sym (ap (take n) (drop-drop (i * n) n xs ∙ ap (λ k. drop k xs) at)) in
    let tail : map (λ k. take n (drop (k * n) xs)) (numbers_to ((i + 1) + 1) c) ≡ map (λ k. take n (drop (k * n) (drop n xs))) (numbers_to (i + 1) c) = moved n (i + 1) c xs in
    cc

pub cut_none : (n : ℕ) → 0 < n → cut n [] ≡ []
cut_none n pos =
    let b : 0 + (n - 1) < n = omega (arith, pos) in
    ap (λ c. map (λ i. take n (drop (i * n) [])) (numbers_to 0 c)) (div-eq_of_lt b)

pub cut_more : (n : ℕ) (xs : List ℕ) → 0 < n → 0 < length xs → cut n xs ≡ take n xs ∷ cut n (drop n xs)
cut_more n xs pos some =
    let count : group_count n (length xs) ≡ suc (group_count n (length xs - n)) = one_more n (length xs) pos some in
    let left : group_count n (length xs - n) ≡ group_count n (length (drop n xs)) = ap (group_count n) (sym (length-drop n xs)) in
    let zeroth : 0 * n ≡ 0 = omega arith in
    let first : take n (drop (0 * n) xs) ≡ take n xs = ap (λ k. take n (drop k xs)) zeroth in
    ap (λ c. map (λ i. take n (drop (i * n) xs)) (numbers_to 0 c)) (count ∙ ap suc left)
    ∙ (ap (λ g. g ∷ map (λ i. take n (drop (i * n) xs)) (numbers_to (0 + 1) (group_count n (length (drop n xs))))) first
    ∙ ap (λ l. take n xs ∷ l) (moved n 0 (group_count n (length (drop n xs))) xs))

-- what holds of the first n of each list that is not empty holds of each group
module _ (n : ℕ) (pos : 0 < n) where
  shorter : (m : ℕ) (xs : List ℕ) → length xs ≤ suc m → length (drop n xs) ≤ m
  shorter m xs few = let e : length (drop n xs) ≡ length xs - n = length-drop n xs in omega (arith, e, few, pos)

  joined_up_to : (m : ℕ) (xs : List ℕ) → length xs ≤ m → concat (cut n xs) ≡ xs
  joined_up_to m [] few = ap concat (cut_none n pos)
  joined_up_to zero (x ∷ xs) few = absurd (omega (arith, few))
  joined_up_to (suc m) (x ∷ xs) few =
      let some : 0 < length (x ∷ xs) = omega arith in
      ap concat (cut_more n (x ∷ xs) pos some)
      ∙ (ap (λ l. take n (x ∷ xs) ++ l) (joined_up_to m (drop n (x ∷ xs)) (shorter m (x ∷ xs) few)) ∙ take-append-drop n (x ∷ xs))

  pub joined : (xs : List ℕ) → concat (cut n xs) ≡ xs
  joined xs = joined_up_to (length xs) xs (omega arith)

  filled : (n : ℕ) (x : ℕ) (xs : List ℕ) → 0 < n → take n (x ∷ xs) ≡ [] → ⊥
  filled zero x xs lt e = absurd (omega (arith, lt))
  filled (suc n) x xs lt e = cc

  none_empty_up_to : (m : ℕ) (xs : List ℕ) → length xs ≤ m → AllByRecursion (λ g. g ≡ [] → ⊥) (cut n xs)
  none_empty_up_to m [] few = subst (AllByRecursion (λ g. g ≡ [] → ⊥)) (sym (cut_none n pos)) tt
  none_empty_up_to zero (x ∷ xs) few = absurd (omega (arith, few))
  none_empty_up_to (suc m) (x ∷ xs) few =
      let some : 0 < length (x ∷ xs) = omega arith in
      subst (AllByRecursion (λ g. g ≡ [] → ⊥)) (sym (cut_more n (x ∷ xs) pos some))
      ((λ (e : take n (x ∷ xs) ≡ []). filled n x xs pos e), none_empty_up_to m (drop n (x ∷ xs)) (shorter m (x ∷ xs) few))

  pub none_empty : (xs : List ℕ) → AllByRecursion (λ g. g ≡ [] → ⊥) (cut n xs)
  none_empty xs = none_empty_up_to (length xs) xs (omega arith)

-- ---- the first group taken off
pub cut_step : (n : ℕ) (all chunk rest : List ℕ) → 0 < n → 0 < length all → all ≡ chunk ++ rest → length chunk ≡ min n (length all) → cut n all ≡ chunk ∷ cut n rest
cut_step n all chunk rest pos some parts size =
    let sum : length all ≡ length chunk + length rest = ap length parts ∙ length-append chunk rest in
    cut_more n all pos some ∙ ⊎_elim
    (λ (short : length all < n).
    let none : rest ≡ [] = nil_from_length rest (omega (arith, sum, size, short)) in
    let first : take n all ≡ chunk = take_all n all (omega (arith, short)) ∙ (parts ∙ (ap (λ l. chunk ++ l) none ∙ append-nil chunk)) in
    let left : drop n all ≡ rest = drop_all n all (omega (arith, short)) ∙ sym none in
    ap (λ l. l ∷ cut n (drop n all)) first ∙ ap (λ l. chunk ∷ cut n l) left)
    (λ (long : n ≤ length all).
    let is : n ≡ length chunk = omega (arith, size, long) in
    let first : take n all ≡ chunk = ap (take n) parts ∙ (ap (λ k. take k (chunk ++ rest)) is ∙ take-append_seam chunk rest) in
    let left : drop n all ≡ rest = ap (drop n) parts ∙ (ap (λ k. drop k (chunk ++ rest)) is ∙ drop-append_seam chunk rest) in
    ap (λ l. l ∷ cut n (drop n all)) first ∙ ap (λ l. chunk ∷ cut n l) left)
    (cases_lt (length all) n)

pub groups_more : {X : Type 0} (items : X → List ℕ) (n : ℕ) (old new : List X) (one : X) (all chunk rest : List ℕ) (whole : List (List ℕ)) → new ≡ old ++ one ∷ [] → items one ≡ chunk → cut n all ≡ chunk ∷ cut n rest →
    map items old ++ cut n all ≡ whole → map items new ++ cut n rest ≡ whole
groups_more items n old new one all chunk rest whole is copied step so_far =
    ap (λ l. map items l ++ cut n rest) is
    ∙ (ap (λ l. l ++ cut n rest) (map-append items old (one ∷ []))
    ∙ (append_assoc (map items old) (items one ∷ []) (cut n rest)
    ∙ (ap (λ l. map items old ++ (l ∷ cut n rest)) copied ∙ (ap (λ l. map items old ++ l) (sym step) ∙ so_far))))

pub groups_all : (n : ℕ) (old whole : List (List ℕ)) (left : List ℕ) → 0 < n → length left ≡ 0 → old ++ cut n left ≡ whole → old ≡ whole
groups_all n old whole left pos done so_far =
    let none : left ≡ [] = nil_from_length left done in
    sym (append-nil old) ∙ (ap (λ l. old ++ l) (sym (ap (cut n) none ∙ cut_none n pos)) ∙ so_far)

-- ---- the groups of happenings are a split
pub all_joined : {X : Type 0} (P : X → Type 0) (xs ys : List X) → AllByRecursion P xs → AllByRecursion P ys → AllByRecursion P (xs ++ ys)
all_joined P [] ys one two = two
all_joined P (x ∷ xs) ys one two = (one.0, all_joined P xs ys one.1 two)

all_groups : (P Q : List ℕ → Type 0) → ((g : List ℕ) → P g → Q g) → (gs : List (List ℕ)) → AllByRecursion P gs → AllByRecursion Q gs
all_groups P Q f [] all = tt
all_groups P Q f (g ∷ gs) all = (f g all.0, all_groups P Q f gs all.1)

by_group : (P : ℕ → Type 0) (gs : List (List ℕ)) → AllByRecursion P (concat gs) → AllByRecursion (λ g. AllByRecursion P g) gs
by_group P [] all = tt
by_group P (g ∷ gs) all = (front_of P g (concat gs) all, by_group P gs (back_of P g (concat gs) all))

module _ (n : ℕ) (pos : 0 < n) (order : Order) where
  abbrev groups : List (List ℕ) → List (List ℕ)
  groups hs = cut_in_order n order hs

  all_joined_up : (hs : List (List ℕ)) → concat (groups hs) ≡ in_order order hs
  all_joined_up [] = refl
  all_joined_up (h ∷ hs) =
      concat-append (cut n (steps_in order h)) (groups hs)
      ∙ (ap (λ l. l ++ concat (groups hs)) (joined n pos (steps_in order h)) ∙ ap (λ l. steps_in order h ++ l) (all_joined_up hs))

  all_filled : (hs : List (List ℕ)) → AllByRecursion (λ g. g ≡ [] → ⊥) (groups hs)
  all_filled [] = tt
  all_filled (h ∷ hs) = all_joined (λ g. g ≡ [] → ⊥) (cut n (steps_in order h)) (groups hs) (none_empty n pos (steps_in order h)) (all_filled hs)

  within_first : (h : List ℕ) (hs : List (List ℕ)) → AllByRecursion (λ g. within_one (h ∷ hs) g ≡ true) (cut n (steps_in order h))
  within_first h hs =
      let listed : AllByRecursion (λ k. list_any (eqb k) h ≡ true) (steps_in order h) = all_listed (λ k. list_any (eqb k) h ≡ true) (steps_in order h) h (same_steps order h) (λ k on. on) in
      let each : AllByRecursion (λ g. AllByRecursion (λ k. list_any (eqb k) h ≡ true) g) (cut n (steps_in order h)) = by_group (λ k. list_any (eqb k) h ≡ true) (cut n (steps_in order h)) (subst (AllByRecursion (λ k. list_any (eqb k) h ≡ true)) (sym (joined n pos (steps_in order h))) listed) in
      all_groups (λ g. AllByRecursion (λ k. list_any (eqb k) h ≡ true) g) (λ g. within_one (h ∷ hs) g ≡ true)
      (λ g all. ap (λ b. b || within_one hs g) (all_true (λ k. list_any (eqb k) h) g all))
      (cut n (steps_in order h)) each

  all_within_one : (hs : List (List ℕ)) → AllByRecursion (λ g. within_one hs g ≡ true) (groups hs)
  all_within_one [] = tt
  all_within_one (h ∷ hs) = all_joined (λ g. within_one (h ∷ hs) g ≡ true) (cut n (steps_in order h)) (groups hs) (within_first h hs)
      (all_groups (λ g. within_one hs g ≡ true) (λ g. within_one (h ∷ hs) g ≡ true) (λ g on. or_true (list_all (λ k. list_any (eqb k) h) g) (within_one hs g) on) (groups hs) (all_within_one hs))

pub cut_is_split : (n : ℕ) (order : Order) (hs : List (List ℕ)) → 0 < n → IsDistinct eqb (concat hs) → IsSplitOf hs (cut_in_order n order hs)
cut_is_split n order hs pos once = record {
  none_empty = all_filled n pos order hs;
  within = all_within_one n pos order hs;
  in_turn = subst (IsSerialOrder hs) (sym (all_joined_up n pos order hs)) (is_serial order hs once);
}
