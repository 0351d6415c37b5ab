-- Names and their numbers: which a name has, and that those of the objects that fit a type are those of their names.
use Rattle.std.proofs.Common.{◌≡◌, ℕ, suc, ◌+◌, Bool, true, false, not, ◌||◌, cond, List, [], ◌∷◌, map, filter, length, nat_lt, bytes_eq, refl, sym, ap, ◌∙◌, arith}
use Rattle.std.specs.Prelude.{Some, None, is_some, position}
use Rattle.std.specs.List.{AllByRecursion, IsDistinct}
use Rattle.std.proofs.lemmas.Bool.Decides.{nat_tests}
use Rattle.pddl_formula.specs.TypedLists.{TypedValue}
use Rattle.pddl_task.specs.Names.{Name, is_in, number_in, item_of}
use Rattle.pddl_task.specs.Types.{pairs, fits}
use Rattle.pddl_task.specs.Tasks.{TaskValue, object_names, fitting_names, places_from, fitting_numbers}
use Rattle.pddl_task.proofs.Lists.{bytes_same, same_bytes}

-- ---- the place of a name among names

is_place : (b : Bool) (k i : ℕ) → Some i ≡ cond b (Some k) None → i ≡ k
is_place true k i h = cc
is_place false k i h = cc

-- the place is the number
pub number_is : (names : List Name) (n : Name) (i : ℕ) → Some i ≡ position (bytes_eq n) names → i ≡ number_in names n
number_is names n i at = is_place (nat_lt (number_in names n) (length names)) (number_in names n) i at

one_before : (b : Bool) (k len : ℕ) (rest : Bool) → nat_lt k len ≡ rest → nat_lt (cond (not b) (1 + k) 0) (suc len) ≡ b || rest
one_before true k len rest is = grind (arith, nat_tests)
one_before false k len rest is = one_less k len ∙ is
  where
    one_less : (k len : ℕ) → nat_lt (1 + k) (suc len) ≡ nat_lt k len
    one_less k len = grind (arith, nat_tests)

-- it is before the end where the name is among them
pub before_end : (names : List Name) (n : Name) → nat_lt (number_in names n) (length names) ≡ is_in names n
before_end [] n = refl
before_end (m ∷ names) n = one_before (bytes_eq n m) (number_in names n) (length names) (is_in names n) (before_end names n)

some_if : {X : Type 0} (b : Bool) (x : X) → is_some (cond b (Some x) None) ≡ b
some_if true x = refl
some_if false x = refl

-- there is one where the name is among them
pub is_placed : (names : List Name) (n : Name) → is_some (position (bytes_eq n) names) ≡ is_in names n
is_placed names n = some_if (nat_lt (number_in names n) (length names)) (number_in names n) ∙ before_end names n

-- ---- the numbers of fitting objects

pub both_ways : (a b : Bool) → (a ≡ true → b ≡ true) → (b ≡ true → a ≡ true) → a ≡ b
both_ways true b f g = sym (f refl)
both_ways false true f g = g refl
both_ways false false f g = refl

turned : (m n : Name) → bytes_eq m n ≡ false → bytes_eq n m ≡ false
turned m n h = both_ways (bytes_eq n m) (bytes_eq m n) (λ e. same_bytes m n (sym (bytes_same n m e))) (λ e. same_bytes n m (sym (bytes_same m n e))) ∙ h

-- what holds of all names holds of those of the items that pass a test
kept : (P : Name → Type 0) (test : TypedValue → Bool) (xs : List TypedValue) → AllByRecursion P (map item_of xs) → AllByRecursion P (map item_of (filter test xs))
kept P test [] h = h
kept P test (x ∷ xs) h =
    elim (test x) as (λ b. AllByRecursion P (map item_of (cond b (x ∷ filter test xs) (filter test xs)))) [ true ↦ (h.0, kept P test xs h.1) | false ↦ kept P test xs h.1 ]

-- behind another name numbers are larger by one
behind_name : (k : ℕ) (m : Name) (names fs : List Name) → AllByRecursion (λ y. bytes_eq m y ≡ false) fs → map (λ n. k + 1 + number_in names n) fs ≡ map (λ n. k + number_in (m ∷ names) n) fs
behind_name k m names [] h = refl
behind_name k m names (f ∷ fs) h =
    let one : k + 1 + number_in names f ≡ k + (1 + number_in names f) = omega arith in
    let here : k + 1 + number_in names f ≡ k + number_in (m ∷ names) f = one ∙ ap (λ b. k + cond (not b) (1 + number_in names f) 0) (sym (turned m f h.0)) in
    let rest : map (λ n. k + 1 + number_in names n) fs ≡ map (λ n. k + number_in (m ∷ names) n) fs = behind_name k m names fs h.1 in
    cc

numbered_from : (k : ℕ) (test : TypedValue → Bool) (xs : List TypedValue) → IsDistinct bytes_eq (map item_of xs) → places_from k test xs ≡ map (λ n. k + number_in (map item_of xs) n) (map item_of (filter test xs))
unfolding IsDistinct
numbered_from k test [] h = refl
numbered_from k test (x ∷ xs) h =
    let names = map item_of xs in
    let fs = map item_of (filter test xs) in
    let rest : places_from (k + 1) test xs ≡ map (λ n. k + number_in (x.item ∷ names) n) fs = numbered_from (k + 1) test xs h.1 ∙ behind_name k x.item names fs (kept (λ y. bytes_eq x.item y ≡ false) test xs h.0) in
    let itself : bytes_eq x.item x.item ≡ true = same_bytes x.item x.item refl in
    let plain : k ≡ k + 0 = omega arith in
    let first : k ≡ k + number_in (x.item ∷ names) x.item = plain ∙ ap (λ b. k + cond (not b) (1 + number_in names x.item) 0) (sym itself) in
    elim (test x) as (λ b. cond b (k ∷ places_from (k + 1) test xs) (places_from (k + 1) test xs) ≡ map (λ n. k + number_in (x.item ∷ names) n) (map item_of (cond b (x ∷ filter test xs) (filter test xs)))) [
      | true ↦ ap (λ i. i ∷ places_from (k + 1) test xs) first ∙ ap (λ l. (k + number_in (x.item ∷ names) x.item) ∷ l) rest
      | false ↦ rest
    ]

from_zero : (names fs : List Name) → map (λ n. 0 + number_in names n) fs ≡ map (number_in names) fs
from_zero names [] = refl
from_zero names (f ∷ fs) =
    let here : 0 + number_in names f ≡ number_in names f = omega arith in
    ap (λ i. i ∷ map (λ n. 0 + number_in names n) fs) here ∙ ap (λ l. number_in names f ∷ l) (from_zero names fs)

pub fitting_numbers_are : (task : TaskValue) → IsDistinct bytes_eq (object_names task) → (types : List Name) → fitting_numbers task types ≡ map (number_in (object_names task)) (fitting_names task types)
fitting_numbers_are task h types =
    numbered_from 0 (λ o. fits (pairs task.types) o.of types) task.objects h ∙ from_zero (object_names task) (fitting_names task types)
