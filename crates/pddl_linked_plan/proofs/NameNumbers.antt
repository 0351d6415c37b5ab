-- Names by their numbers, and numbers by their names.
use Rattle.std.proofs.Common.{◌≡◌, ◌<◌, ℕ, zero, suc, ◌+◌, Bool, true, false, not, ◌||◌, cond, List, [], ◌∷◌, map, length, nat_lt, bytes_eq, refl, sym, ap, ◌∙◌, arith}
use Rattle.std.specs.Prelude.{Some, slice_get}
use Rattle.std.specs.List.{list_all, IsDistinct, AllByRecursion}
use Rattle.std.specs.Cmp.Lexicographic.{bytes_decides, nat_list_eq_equiv}
use Rattle.std.proofs.lemmas.Bool.Decides.{nat_tests}
use Rattle.std.proofs.lemmas.List.Sums.{position_or_len_is}
use Rattle.std.proofs.lemmas.Map.Keys.{apart_from_distinct}
use Rattle.std.proofs.lemmas.Option.{get_or_from_slice_get}
use Rattle.pddl_task.specs.Names.{Name, is_in, number_in}
use Rattle.pddl_task.proofs.Lists.{and_left, and_right, and_both, or_left, or_right, same_bytes}
use Rattle.pddl_linked_plan.specs.LinkedLaws.{name_at}
use Rattle.pddl_task.proofs.Numbers.{before_end}
use Rattle.pddl_linked_plan.proofs.Numbers.{one_more_get}

-- ---- known names

at_front : (b : Bool) (n m : Name) (names : List Name) → bytes_eq n m ≡ b → (b ≡ false → slice_get names (number_in names n) ≡ Some n)
    → slice_get (m ∷ names) (cond (not b) (1 + number_in names n) 0) ≡ Some n
at_front true n m names is later = ap Some (sym ((bytes_decides n m).0 is))
at_front false n m names is later = sym (one_more_get m names (number_in names n)) ∙ later refl

-- at a known name's number stands the name
pub at_number : (names : List Name) (n : Name) → is_in names n ≡ true → slice_get names (number_in names n) ≡ Some n
at_number [] n known = cc
at_number (m ∷ names) n known = at_front (bytes_eq n m) n m names refl (λ other. at_number names n (sym (ap (λ b. b || is_in names n) other) ∙ known))

pub name_of_number : (names : List Name) (n : Name) → is_in names n ≡ true → name_at names (number_in names n) ≡ n
name_of_number names n known = get_or_from_slice_get names (number_in names n) n [] (at_number names n known)

pub number_in_range : (names : List Name) (n : Name) → is_in names n ≡ true → number_in names n < length names
number_in_range names n known = below (number_in names n) (length names) (before_end names n ∙ known)
  where
    below : (k len : ℕ) → nat_lt k len ≡ true → k < len
    below k len h = grind (arith, nat_tests)

pub names_of_numbers : (names ns : List Name) → list_all (is_in names) ns ≡ true → map (name_at names) (map (number_in names) ns) ≡ ns
names_of_numbers names [] known = refl
names_of_numbers names (n ∷ ns) known =
    ap (λ m. m ∷ map (name_at names) (map (number_in names) ns)) (name_of_number names n (and_left (is_in names n) (list_all (is_in names) ns) known))
    ∙ ap (λ ms. n ∷ ms) (names_of_numbers names ns (and_right (is_in names n) (list_all (is_in names) ns) known))

pub numbers_in_range : (names ns : List Name) → list_all (is_in names) ns ≡ true → AllByRecursion (λ k. k < length names) (map (number_in names) ns)
numbers_in_range names [] known = tt
numbers_in_range names (n ∷ ns) known =
    (number_in_range names n (and_left (is_in names n) (list_all (is_in names) ns) known), numbers_in_range names ns (and_right (is_in names n) (list_all (is_in names) ns) known))

-- ---- numbers in range

-- the name at a number is known
pub name_is_in : (names : List Name) (k : ℕ) → k < length names → is_in names (name_at names k) ≡ true
name_is_in [] k low = absurd (omega (arith, low))
name_is_in (n ∷ names) zero low = or_left (bytes_eq n n) (is_in names n) (same_bytes n n refl)
name_is_in (n ∷ names) (suc k) low = or_right (bytes_eq (name_at names k) n) (is_in names (name_at names k)) (name_is_in names k (omega (arith, low)))

pub names_are_in : (names : List Name) (ks : List ℕ) → AllByRecursion (λ k. k < length names) ks → list_all (is_in names) (map (name_at names) ks) ≡ true
names_are_in names [] low = refl
names_are_in names (k ∷ ks) low =
    and_both (is_in names (name_at names k)) (list_all (is_in names) (map (name_at names) ks)) (name_is_in names k low.0) (names_are_in names ks low.1)

-- where no name stands twice, it has that number
pub number_of_name : (names : List Name) (k : ℕ) → IsDistinct bytes_eq names → k < length names → number_in names (name_at names k) ≡ k
number_of_name names k once low =
    position_or_len_is (bytes_eq (name_at names k)) names k [] (omega (arith, low))
    (λ j before. nat_list_eq_equiv.symm (name_at names k) (name_at names j) ∙ apart_from_distinct bytes_eq names j k [] once before low)
    (λ _. same_bytes (name_at names k) (name_at names k) refl)

pub numbers_of_names : (names : List Name) (ks : List ℕ) → IsDistinct bytes_eq names → AllByRecursion (λ k. k < length names) ks → map (number_in names) (map (name_at names) ks) ≡ ks
numbers_of_names names [] once low = refl
numbers_of_names names (k ∷ ks) once low =
    ap (λ j. j ∷ map (number_in names) (map (name_at names) ks)) (number_of_name names k once low.0) ∙ ap (λ js. k ∷ js) (numbers_of_names names ks once low.1)
