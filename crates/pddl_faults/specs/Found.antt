-- What is found of faults that stand, each told by its number and its word (own).
use Rattle.std.specs.Prelude.{◌≡◌, ◌≤◌, ℕ, List, [], map, Contains, Result, MatchResult, IfSome}
use Rattle.pddl_task.specs.Names.{Name}
use Rattle.pddl_faults.specs.declared.fault.LinkFault.{LinkFault}
use Rattle.pddl_faults.specs.Passes.{fault_of}

-- the fault is one of these, and none of them has a lower number
pub record IsLowestOf (all : List (ℕ × Name)) (found : ℕ × Name) : Type 0 where
  pub stands : Contains all found
  pub lowest : (other : ℕ × Name) → Contains all other → found.0 ≤ other.0

-- none of these faults is there, or the lowest of them is answered
abbrev pub IsFound : {T : Type 0} → List (ℕ × Name) → Result T LinkFault → Type 0
IsFound all r = MatchResult r (λ _. all ≡ []) (λ e. IfSome (fault_of e) (IsLowestOf all))

-- words, each with the number of its fault
abbrev pub numbered : ℕ → List Name → List (ℕ × Name)
numbered n words = map (λ w. (n, w)) words
