-- What is found in parts of faults.
use Rattle.std.proofs.Common.{◌≡◌, ◌≤◌, ℕ, Bool, true, List, [], ◌∷◌, ◌++◌, Result, Ok, Err, refl, arith, OnOk, IsOk, MatchResult, nat_le}
use Rattle.std.specs.List.{flat_map, list_all}
use Rattle.std.proofs.lemmas.Bool.Decides.{nat_tests}
use Rattle.std.proofs.lemmas.List.Folds.{list_all-append, list_all-map}
use Rattle.pddl_task.specs.Names.{Name}
use Rattle.pddl_task.proofs.Lists.{all_found, append-none}
use Rattle.pddl_faults.specs.declared.fault.LinkFault.{LinkFault}
use Rattle.pddl_faults.specs.Passes.{Passes}
use Rattle.pddl_faults.specs.Found.{IsFound, numbered}
use Rattle.pddl_faults.proofs.FoundFaults.{number_is, found_first, passed_found}
use Rattle.pddl_names.specs.FaultParts.{joined}

-- a pass for one fault alone
pub passed_part : {T : Type 0} (n : ℕ) (words : List Name) (r : Result T LinkFault) → Passes n words r → IsFound (joined (numbered n words ∷ [])) r
passed_part n words r h = rw append-none (passed_found n words r h)

-- ---- numbers of faults

-- all of what is found in items passes a test where it does in each; and so of nothing
pub all-flat : {X Y : Type 0} (test : Y → Bool) (f : X → List Y) (xs : List X) → list_all test (flat_map f xs) ≡ list_all (λ x. list_all test (f x)) xs
all-flat test f [] = refl
all-flat test f (x ∷ xs) = simp (list_all-append, all-flat test f xs)

pub all_pass : {X : Type 0} (xs : List X) → list_all (λ (x : X). true) xs ≡ true
all_pass [] = refl
all_pass (x ∷ xs) = all_pass xs

-- so a test of the numbers of faults in parts is computed
pub ruleset from_parts = (list_all-append, list_all-map, all-flat, all_pass)

-- what a pass finds is the lowest where no fault behind it has a lower number
pub passed_first : (n : ℕ) (words : List Name) (rest : List (ℕ × Name)) (e : LinkFault) → Passes {T = Unit {0}} n words (Err e) → list_all (λ (f : ℕ × Name). nat_le n f.0) rest ≡ true
    → IsFound {T = Unit {0}} (numbered n words ++ rest) (Err e)
passed_first n words rest e h from =
    found_first (numbered n words) rest e (λ f g c after. below f.0 g.0 (number_is n words f c).0 (all_found (λ (f : ℕ × Name). nat_le n f.0) rest from g after)) (passed_found {T = Unit {0}} n words (Err e) h)
  where
    below : (k m : ℕ) → k ≡ n → nat_le n m ≡ true → k ≤ m
    below k m is low = grind (arith, nat_tests, low)

-- ---- values

-- what holds anyway holds where nothing was found
pub holds_on : {U E P : Type 0} (r : Result U E) → P → OnOk r P
holds_on (Ok u) h = h
holds_on (Err e) h = tt

-- what holds where something is made holds once it is
pub ok_holds : {T : Type 0} (P : Type 0) (Q : LinkFault → Type 0) (r : Result T LinkFault) → IsOk r → MatchResult r (λ _. P) Q → P
ok_holds P Q (Ok u) is h = h
ok_holds P Q (Err e) is h = absurd (cc is)
