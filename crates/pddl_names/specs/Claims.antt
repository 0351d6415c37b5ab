-- What an item of `:init` claims of a ground atom, or of a function of objects.
use Rattle.std.specs.Prelude.{◌||◌, ◌&&◌, ℕ, Bool, true, false, List, if◌then◌else◌}
use Rattle.std.specs.Borrow.{Bor}
use Rattle.std.specs.List.{list_any}
use Rattle.pddl_problem.specs.Inits.{GroundValue, InitValue, holds, fails, value}
use Rattle.pddl_task.specs.Names.{Name}
use Rattle.pddl_task.specs.Faults.{contradicts, revalues, starts_above_zero}

-- a claim: whether it is of a function of objects, of what it claims a number, and the number
pub record Claim : Type 0 where
  pub is_value : Bool
  pub ground : GroundValue
  pub number : ℕ

-- what an item claims: an atom has 1 where it holds and 0 where it fails, a function of objects its value
abbrev pub claim_of : InitValue → Claim
claim_of (holds f) = record { is_value = false; ground = f; number = 1 }
claim_of (fails f) = record { is_value = false; ground = f; number = 0 }
claim_of (value f n) = record { is_value = true; ground = f; number = n }

-- a name and objects that are lent
abbrev pub ground_in : Bor Name × Bor (List Name) → GroundValue
ground_in g = record { name = g.0.now; objects = g.1.now }

abbrev pub claim_in : Bool × (Bor Name × Bor (List Name)) × ℕ → Claim
claim_in c = record { is_value = c.0; ground = ground_in c.1; number = c.2 }

-- which items clash, of functions of objects or of atoms
abbrev pub clash_in : Bool → InitValue → InitValue → Bool
clash_in true = revalues
clash_in false = contradicts

-- an item is wrong behind those before it: as one of functions of objects, or of atoms
abbrev pub wrong_in : Bool → List InitValue → InitValue → Bool
wrong_in of_values before i = of_values && starts_above_zero i || list_any (clash_in of_values i) before

-- the number of the fault that stands where one is
abbrev pub fault_number : Bool → ℕ
fault_number of_values = if of_values then 31 else 29

-- an atom fails
abbrev pub is_failure : InitValue → Bool
is_failure (fails f) = true
is_failure _ = false
