-- The costs that are held for look-ups.
use Rattle.std.specs.Prelude.{ℕ, Option, List}
use Rattle.std.specs.Map.{lookup}
use Rattle.pddl_state.specs.Atoms.{AtomValue, atom_eq}

-- the cost of a function of objects, where there is one
abbrev pub price_in : List (AtomValue × ℕ) → AtomValue → Option ℕ
price_in prices call = lookup (atom_eq call) prices
