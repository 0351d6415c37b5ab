-- Where the names of a fact's objects are. No public clause cites this module.
use Rattle.std.specs.Prelude.{◌≡◌, ◌≤◌, ℕ, zero, suc, IsTrue, List, [], ◌∷◌, length, take, get_or}
use Rattle.std.specs.List.{list_all, slice_range}
use Rattle.pddl_token.specs.Names.{is_name}
use Rattle.pddl_problem.specs.declared.object_names.Held.{Held}
use Rattle.pddl_problem.specs.declared.object_names.Held.TheVariants.{Few, Many}

-- the bytes from a place up to each of some ends in turn
abbrev pub pieces : ℕ → List ℕ → List ℕ → List (List ℕ)
pieces from [] bytes = []
pieces from (end ∷ ends) bytes = slice_range bytes from end ∷ pieces end ends bytes

-- where the piece of a number from 0 begins
abbrev pub start_at : List ℕ → ℕ → ℕ
start_at ends zero = 0
start_at ends (suc n) = get_or ends n 0

-- from a place on each end is at or behind the one before, and none is past 32
abbrev pub DoRise : ℕ → List ℕ → Type 0
DoRise from [] = from ≤ 32
DoRise from (end ∷ ends) = (from ≤ end) × DoRise end ends

module _ {A : Type 0} where
  abbrev pub names_in : Held A → List (List ℕ)
  names_in (Few count ends bytes) = pieces 0 (take count ends) bytes
  names_in (Many names) = names.items

  -- those in the value itself are as many as there is room for, and each is a name
  abbrev pub AreHeld : Held A → Type 0
  AreHeld (Few count ends bytes) = (count ≤ 6) × (length ends ≡ 6) × (length bytes ≡ 32) × DoRise 0 (take count ends) × IsTrue (list_all is_name (pieces 0 (take count ends) bytes))
  AreHeld (Many names) = Unit {0}
