-- Names that may not stand for a predicate or a type.
use Rattle.std.specs.Prelude.{ℕ, List, [], ◌∷◌, length, Bool, true, ◌&&◌, not, nat_lt, Option, Some, None, if◌then◌else◌, codes}
use Rattle.std.specs.List.{list_all}
use Rattle.std.specs.Str.{bytes_eq}
use Rattle.pddl_token.specs.Names.{is_name}

-- the words that head formulas and effects (Kovacs); that they name no predicate is own
abbrev pub reserved : List (List ℕ)
reserved = codes "and" ∷ codes "or" ∷ codes "not" ∷ codes "imply" ∷ codes "exists" ∷ codes "forall" ∷ codes "when" ∷ codes "increase" ∷ []

-- none of these words
abbrev pub is_none_of : List (List ℕ) → List ℕ → Bool
is_none_of [] n = true
is_none_of (word ∷ words) n = not (bytes_eq n word) && is_none_of words n

-- the name of a predicate: a name that is not reserved
abbrev pub is_predicate : List ℕ → Bool
is_predicate n = is_name n && is_none_of reserved n

-- the predicate that a name is
abbrev pub predicate_of : List ℕ → Option (List ℕ)
predicate_of n = if is_none_of reserved n then Some n else None

-- a primitive type: a name other than `either` (own)
abbrev pub is_type_name : List ℕ → Bool
is_type_name n = is_name n && not (bytes_eq n (codes "either"))

-- the primitive type that a name is
abbrev pub type_name_of : List ℕ → Option (List ℕ)
type_name_of n = if bytes_eq n (codes "either") then None else Some n

-- a type: its primitive types, of which there is at least one
abbrev pub is_type : List (List ℕ) → Bool
is_type names = nat_lt 0 (length names) && list_all is_type_name names

-- the type that primitive types are
abbrev pub type_of : List (List ℕ) → Option (List (List ℕ))
type_of [] = None
type_of (n ∷ ns) = Some (n ∷ ns)
