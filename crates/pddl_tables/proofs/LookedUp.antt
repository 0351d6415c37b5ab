-- The number of a name that is looked up, whether it is found or not.
use Rattle.std.proofs.Common.{◌≡◌, ◌≤◌, ℕ, suc, ◌+◌, Bool, true, false, not, cond, List, [], ◌∷◌, map, length, nat_lt, bytes_eq, refl, sym, ap, ◌∙◌, arith}
use Rattle.std.specs.Prelude.{Option, Some, None, is_some, position}
use Rattle.std.specs.Option.{unwrap_or}
use Rattle.std.proofs.lemmas.Bool.Decides.{nat_tests}
use Rattle.pddl_task.specs.Names.{Name, number_in}
use Rattle.pddl_task.proofs.Numbers.{before_end, is_placed, number_is}

number_within : (names : List Name) (n : Name) → number_in names n ≤ length names
number_within [] n = omega arith
number_within (m ∷ names) n = by (bytes_eq n m) (number_in names n) (length names) (number_within names n)
  where
    by : (b : Bool) (k len : ℕ) → k ≤ len → cond (not b) (1 + k) 0 ≤ suc len
    by true k len h = omega arith
    by false k len h = omega (arith, h)

-- one that is none of the names has the number behind the last
none_number : (names : List Name) (n : Name) → None ≡ position (bytes_eq n) names → length names ≡ number_in names n
none_number names n none = last (number_in names n) (length names) (number_within names n) (before_end names n ∙ sym (is_placed names n) ∙ sym (ap is_some none))
  where
    last : (k len : ℕ) → k ≤ len → nat_lt k len ≡ false → len ≡ k
    last k len h off = grind (arith, nat_tests)

-- what is looked up is the number
pub looked_up : {X : Type 0} (key : X → Name) (xs : List X) (n : Name) (found : Option ℕ) (count : ℕ) → found ≡ position (bytes_eq n) (map key xs) → count ≡ length xs
    → unwrap_or found count ≡ number_in (map key xs) n
looked_up key xs n (Some i) count at all = number_is (map key xs) n i at
looked_up key xs n None count at all = all ∙ as_long xs ∙ none_number (map key xs) n at
  where
    as_long : (ys : List _) → length ys ≡ length (map key ys)
    as_long [] = refl
    as_long (y ∷ ys) = ap suc (as_long ys)
