-- What is found in parts, and what is found in the whole.
use Rattle.std.proofs.Common.{◌≡◌, ◌≤◌, ◌<◌, ℕ, List, [], ◌++◌, Option, Some, None, Result, Ok, Err, IfSome, refl, ap, arith, Contains, append_assoc}
use Rattle.std.specs.Option.{option_map_or}
use Rattle.std.proofs.lemmas.Option.{IfSome_then}
use Rattle.std.proofs.lemmas.List.Elements.{Contains-append_left, Contains-append_right, Contains-append_cases}
use Rattle.pddl_task.specs.Names.{Name}
use Rattle.pddl_task.proofs.Lists.{mapped_is, is_mapped, append-none}
use Rattle.pddl_faults.specs.declared.fault.LinkFault.{LinkFault}
use Rattle.pddl_faults.specs.Passes.{fault_of, Passes}
use Rattle.pddl_faults.specs.Found.{IsLowestOf, IsFound, numbered}

-- ---- two parts

low_both : (xs ys : List (ℕ × Name)) (f : ℕ × Name) → Contains (xs ++ ys) f → ((g : ℕ × Name) → Contains xs g → f.0 ≤ g.0) → ((g : ℕ × Name) → Contains ys g → f.0 ≤ g.0) → IsLowestOf (xs ++ ys) f
low_both xs ys f has front back = record { stands = has; lowest = λ g c. grind (arith, Contains-append_cases xs ys g c, front g, back g) }

-- that of the first, where the second's is not lower
pub lower_front : (xs ys : List (ℕ × Name)) (e d : LinkFault) → option_map_or (λ f. f.0) (fault_of e) 0 ≤ option_map_or (λ f. f.0) (fault_of d) 0
    → IfSome (fault_of e) (IsLowestOf xs) → IfSome (fault_of d) (IsLowestOf ys) → IfSome (fault_of e) (IsLowestOf (xs ++ ys))
lower_front xs ys e d le h k = at (fault_of e) (fault_of d) le (λ zero. grind (arith, zero)) h k
  where
    at : (o p : Option (ℕ × Name)) → option_map_or (λ f. f.0) o 0 ≤ option_map_or (λ f. f.0) p 0 → (option_map_or (λ f. f.0) o 0 ≡ 0 → o ≡ None) → IfSome o (IsLowestOf xs) → IfSome p (IsLowestOf ys)
        → IfSome o (IsLowestOf (xs ++ ys))
    at None p le some h k = tt
    at (Some f) None le some h k = let none = some (omega arith) in cc
    at (Some f) (Some g) le some h k = low_both xs ys f (Contains-append_left xs ys f h.stands) h.lowest (λ other c. let m = k.lowest other c in omega arith)

-- or that of the second is lower
pub lower_back : (xs ys : List (ℕ × Name)) (o p : Option (ℕ × Name)) → option_map_or (λ f. f.0) p 0 < option_map_or (λ f. f.0) o 0
    → IfSome o (IsLowestOf xs) → IfSome p (IsLowestOf ys) → IfSome p (IsLowestOf (xs ++ ys))
lower_back xs ys o None lt h k = tt
lower_back xs ys None (Some g) lt h k = absurd (omega arith)
lower_back xs ys (Some f) (Some g) lt h k = low_both xs ys g (Contains-append_right xs ys g k.stands) (λ other c. let m = h.lowest other c in omega arith) k.lowest

-- ---- one fault

-- each of some words has their number
pub number_is : (n : ℕ) (words : List Name) (g : ℕ × Name) → Contains (numbered n words) g → (g.0 ≡ n) × Contains words g.1
number_is n words g c =
    let m = mapped_is (λ w. (n, w)) words g c in
    rw (← m.2) (refl, m.1)

-- what a pass for one fault finds
pub passed_found : {T : Type 0} (n : ℕ) (words : List Name) (r : Result T LinkFault) → Passes n words r → IsFound (numbered n words) r
passed_found n words (Ok v) h = ap (numbered n) h
passed_found n words (Err e) h =
    IfSome_then (fault_of e) h (λ f here. record { stands = rw here.0 (is_mapped (λ w. (n, w)) words f.1 here.1); lowest = λ g c. let m = number_is n words g c in omega (arith, here.0, m.0) })

-- a pass for one fault, whose words may be told otherwise
pub passed_as : {T : Type 0} (n : ℕ) {words told : List Name} (r : Result T LinkFault) → words ≡ told → Passes n words r → IsFound (numbered n told) r
passed_as n {words} {told} r same h = rw (← same) (passed_found n words r h)

-- ---- in turn

-- the numbers of the first are none above those of the second
abbrev pub AreBelow : List (ℕ × Name) → List (ℕ × Name) → Type 0
AreBelow xs ys = (f g : ℕ × Name) → Contains xs f → Contains ys g → f.0 ≤ g.0

-- what is found first, and nothing that is behind it is lower
pub found_first : (xs ys : List (ℕ × Name)) (e : LinkFault) → AreBelow xs ys → IfSome (fault_of e) (IsLowestOf xs) → IfSome (fault_of e) (IsLowestOf (xs ++ ys))
found_first xs ys e below h = IfSome_then (fault_of e) h (λ f low. low_both xs ys f (Contains-append_left xs ys f low.stands) low.lowest (λ g c. below f g low.stands c))

-- where nothing is found first, the rest decides
pub found_rest : {T : Type 0} (xs ys : List (ℕ × Name)) (r : Result T LinkFault) → xs ≡ [] → IsFound ys r → IsFound (xs ++ ys) r
found_rest xs ys r none h = rw none h

-- what is found in a list is found in the same list
pub found_same : {T : Type 0} (xs whole : List (ℕ × Name)) (r : Result T LinkFault) → whole ≡ xs → IsFound xs r → IsFound whole r
found_same xs whole r is h = rw is h

-- ---- part by part

-- what is found in the whole but for what is left of it
pub record IsFoundUpTo (left whole : List (ℕ × Name)) (r : Result (Unit {0}) LinkFault) : Type 0 where
  pub gone : List (ℕ × Name)
  pub parts : gone ++ left ≡ whole
  pub found : IsFound gone r

-- all is left at first
pub up_to_none : {whole : List (ℕ × Name)} → IsFoundUpTo whole whole (Ok tt)
up_to_none = record { gone = []; parts = refl; found = refl }

-- a part more
pub up_to_more : {left rest whole : List (ℕ × Name)} {r both : Result (Unit {0}) LinkFault} (part : List (ℕ × Name)) (next : Result (Unit {0}) LinkFault) → left ≡ part ++ rest
    → ((xs ys : List (ℕ × Name)) → IsFound xs r → IsFound ys next → IsFound (xs ++ ys) both) → IsFound part next → IsFoundUpTo left whole r → IsFoundUpTo rest whole both
up_to_more {rest = rest} part next is lower more so_far = record {
  gone = so_far.gone ++ part;
  parts = rw (append_assoc, ← is) so_far.parts;
  found = lower so_far.gone part so_far.found more;
}

-- nothing is left
pub up_to_all : {left whole : List (ℕ × Name)} {r : Result (Unit {0}) LinkFault} → left ≡ [] → IsFoundUpTo left whole r → IsFound whole r
up_to_all {whole = whole} {r} none so_far = rw (← so_far.parts, none, append-none) so_far.found
