-- What the meaning of formulas and effects depends on beside the state.
use Rattle.std.specs.Prelude.{ℕ, Bool, false, List}
use Rattle.std.specs.Option.{unwrap_or}
use Rattle.pddl_problem.specs.Inits.{GroundValue}
use Rattle.pddl_task.specs.Names.{Name}
use Rattle.pddl_task.specs.Tasks.{TaskValue, fitting_names, cost_of}

-- A set of ground atoms: whether an atom is in it (own; the states of Fox and Long are such sets).
abbrev pub Atoms : Type 0
Atoms = GroundValue → Bool

-- The set without atoms.
abbrev pub no_atoms : Atoms
no_atoms g = false

-- The objects that fit a type, and the cost of each function of objects (own).
pub record World : Type 0 where
  pub fit : List Name → List Name
  pub price : GroundValue → ℕ

-- The cost that `:init` gives a function of objects; 0 where it gives none, which no increase of a linked step has (own).
abbrev pub price_of : TaskValue → GroundValue → ℕ
price_of task g = unwrap_or (cost_of task g) 0

-- The world of a task.
abbrev pub world_of : TaskValue → World
world_of task = record { fit = fitting_names task; price = price_of task }
