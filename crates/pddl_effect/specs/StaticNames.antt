-- Names of functions that no effect changes.
use Rattle.std.specs.Prelude.{ℕ, List, Bool, ◌&&◌, not, Option, Some, None, if◌then◌else◌, codes}
use Rattle.std.specs.Str.{bytes_eq}
use Rattle.pddl_token.specs.Names.{is_name}

-- the name of a function whose values stay as a problem gives them: a name other than `total-cost`, which alone is increased (own)
abbrev pub is_static_function : List ℕ → Bool
is_static_function n = is_name n && not (bytes_eq n (codes "total-cost"))

-- the function that a name is
abbrev pub static_function_of : List ℕ → Option (List ℕ)
static_function_of n = if bytes_eq n (codes "total-cost") then None else Some n
