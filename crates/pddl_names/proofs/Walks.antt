-- A walk over places, part by part, and what is found at the places so far.
use Rattle.std.proofs.Common.{◌≡◌, ℕ, ◌+◌, ◌<◌, ◌≤◌, List, [], ◌∷◌, ◌++◌, map, length, get_or, drop, Result, Err, refl, flat_map}
use Rattle.std.proofs.lemmas.List.{drop_all, append_assoc}
use Rattle.std.proofs.lemmas.List.Concat.{flat_map-append}
use Rattle.pddl_formula.specs.TypedLists.{TypedValue}
use Rattle.pddl_task.specs.Names.{Name, repeated, item_of}
use Rattle.pddl_task.specs.Places.{Place, at, binds}
use Rattle.pddl_task.proofs.Lists.{append-none}
use Rattle.pddl_faults.specs.declared.fault.LinkFault.{LinkFault}
use Rattle.pddl_faults.specs.Passes.{Passes}
use Rattle.pddl_faults.specs.Found.{IsFound, numbered}
use Rattle.pddl_faults.proofs.FoundFaults.{IsFoundUpTo, up_to_more, up_to_all}
use Rattle.pddl_faults.proofs.ListTurns.{rest_is}
use Rattle.pddl_types.specs.Told.{unknown_among}
use Rattle.pddl_types.specs.declared.known.Known.{Known}
use Rattle.pddl_names.specs.Uses.{faults_by}
use Rattle.pddl_names.proofs.FoundParts.{from_parts, passed_first}

-- what is found in the places of some items, but for those from one on
abbrev pub FoundBefore : {X : Type 0} → (Place → List (ℕ × Name)) → (List X → List Place) → List X → ℕ → Result (Unit {0}) LinkFault → Type 0
FoundBefore sought places xs i r = IsFoundUpTo (flat_map sought (places (drop i xs))) (flat_map sought (places xs)) r

-- what two parts answer together
abbrev pub Lowers : Result (Unit {0}) LinkFault → Result (Unit {0}) LinkFault → Result (Unit {0}) LinkFault → Type 0
Lowers r s both = (xs ys : List (ℕ × Name)) → IsFound xs r → IsFound ys s → IsFound (xs ++ ys) both

-- some places, and then others
pub in_turn : (sought : Place → List (ℕ × Name)) (ps qs : List Place) (r s both : Result (Unit {0}) LinkFault) → Lowers r s both → IsFound (flat_map sought ps) r → IsFound (flat_map sought qs) s
    → IsFound (flat_map sought (ps ++ qs)) both
in_turn sought ps qs r s both lower h k = rw flat_map-append (lower _ _ h k)

-- a type of a list is not known, or memory for the list is refused: nothing lower is behind it
pub stopped : {A B : Type 0} (k : Known A B) (xs : List TypedValue) (ps : List Place) (e : LinkFault) → Passes {T = Unit {0}} 23 (unknown_among k.types.declared xs) (Err e)
    → IsFound {T = Unit {0}} (flat_map (faults_by k) (at [] (binds xs) ∷ ps)) (Err e)
stopped k xs ps e passes =
    let twice = numbered 24 (repeated [] (map item_of xs)) in
    rw (append-none twice, append_assoc) (passed_first 23 (unknown_among k.types.declared xs) (twice ++ flat_map (faults_by k) ps) e passes (simp from_parts))

-- ---- items in turn

module _ {X : Type 0} (sought : Place → List (ℕ × Name)) (places : List X → List Place) (xs : List X) {i : ℕ} {r : Result (Unit {0}) LinkFault} where
  -- the next item
  pub one_more : {both : Result (Unit {0}) LinkFault} (one : Result (Unit {0}) LinkFault) (own : List Place) (x : X) → i < length xs → x ≡ get_or xs i x → ((rest : List X) → places (x ∷ rest) ≡ own ++ places rest)
      → Lowers r one both → IsFound (flat_map sought own) one → FoundBefore sought places xs i r → FoundBefore sought places xs (i + 1) both
  one_more one own x low is front lower here so_far =
      up_to_more (flat_map sought own) one (rw (rest_is xs i x low is, front (drop (i + 1) xs)) (flat_map-append sought own (places (drop (i + 1) xs)))) lower here so_far

  -- no item is left
  pub at_end : {all : List X} → length xs ≤ i → places [] ≡ [] → xs ≡ all → FoundBefore sought places xs i r → IsFound (flat_map sought (places all)) r
  at_end past none same so_far = rw (← same) (up_to_all (rw (drop_all i xs past, none) refl) so_far)
