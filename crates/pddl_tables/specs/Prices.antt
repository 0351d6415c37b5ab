-- The costs of functions of objects by numbers (own). Functions are numbered in the domain's order, objects in the task's.
use Rattle.std.specs.Prelude.{ℕ, cond, map, Option, Some}
use Rattle.std.specs.Map.{lookup}
use Rattle.std.specs.Option.{option_map_or, unwrap_or}
use Rattle.pddl_problem.specs.Inits.{GroundValue, InitValue}
use Rattle.pddl_task.specs.Tasks.{TaskValue, cost_in, object_names, function_names}
use Rattle.pddl_state.specs.Atoms.{AtomValue, atom_eq}
use Rattle.pddl_compiled.specs.Tables.{number_atom}

-- a function of objects with its cost, by numbers
abbrev pub numbered_cost : TaskValue → GroundValue × ℕ → AtomValue × ℕ
numbered_cost task e = (number_atom (function_names task) (object_names task) e.0, e.1)

-- the cost of a function of objects, where `:init` gives it one
abbrev pub price_at : TaskValue → AtomValue → Option ℕ
price_at task call = lookup (atom_eq call) (map (numbered_cost task) task.costs)

-- the cost of a function of objects where an item of `:init` gives it one, else that of a table
abbrev pub price_before : TaskValue → InitValue → (AtomValue → Option ℕ) → AtomValue → Option ℕ
price_before task item table call = option_map_or (λ e. cond (atom_eq call (numbered_cost task e).0) (Some e.1) (table call)) (cost_in item) (table call)

-- the cost, or 0 where there is none
abbrev pub prices_of : TaskValue → AtomValue → ℕ
prices_of task call = unwrap_or (price_at task call) 0
