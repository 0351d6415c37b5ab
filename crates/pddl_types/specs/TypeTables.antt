-- How the types of a domain are held for look-ups by name.
use Rattle.std.specs.Prelude.{◌≡◌, ◌-◌, ◌==◌, not, unwrap_or, ℕ, List, [], map, filter, fold, cond, bytes_eq, Option, Some, is_some, slice_get}
use Rattle.std.specs.Borrow.{Bor}
use Rattle.std.specs.List.{IsDistinct}
use Rattle.std.specs.Map.{keys_of, lookup}
use Rattle.pddl_domain.specs.Declarations.{TypeValue}
use Rattle.pddl_task.specs.Names.{Name, is_in, repeated, item_of}
use Rattle.pddl_task.specs.Types.{root, types_of, pairs, is_cyclic}
use Rattle.pddl_task.specs.Faults.{first_alone}

-- ---- tables

-- a type's name, with the place of its parent, counted from 1, once it is declared, else with 0
abbrev pub Row : Type 0
Row = Bor (List ℕ) × ℕ

-- the names of a table, in its order
abbrev pub names_in : List Row → List Name
names_in rows = map (λ r. r.0.now) rows

-- the places of the parents; where no parent is declared, the first, of `object`
abbrev pub parents_in : List Row → List ℕ
parents_in rows = map (λ r. r.1 - 1) rows

-- a name stands at a place
abbrev pub StandsAt : List Row → ℕ → Name → Type 0
StandsAt rows place n = slice_get (names_in rows) place ≡ Some n

-- what stands beside a type, if that stands in the table
abbrev pub parent_place : List Row → Name → Option ℕ
parent_place rows t = lookup (λ k. bytes_eq t k.now) rows

-- a type's parent: as it is declared, else `object`
abbrev pub parent_in : List TypeValue → Name → Name
parent_in declared t = fold (λ over e. cond (bytes_eq t e.item) e.of over) root declared

-- a table of these types, `object` first: each stands once, with the place of its parent, and whether it is declared, as far as parents are told
pub record IsTableOf (types : List Name) (told : List TypeValue) (rows : List Row) : Type 0 where
  pub once : IsDistinct (λ x y. bytes_eq x.now y.now) (keys_of rows)
  pub first : StandsAt rows 0 root
  pub has : (t : Name) → is_some (parent_place rows t) ≡ is_in types t
  pub declared : (t : Name) → not (unwrap_or (parent_place rows t) 0 == 0) ≡ is_in (map item_of told) t
  pub parents : (t : Name) (place : ℕ) → parent_place rows t ≡ Some place → StandsAt rows (place - 1) (parent_in told t)

-- a table of the types of a domain, each declared once
abbrev pub IsTypeTable : List TypeValue → List Row → Type 0
IsTypeTable declared rows = (repeated [] (map item_of declared) ≡ []) × IsTableOf (types_of declared) declared rows

-- ---- cycles

-- the first declared type that is above itself, if there is one
abbrev pub cycle_in : List TypeValue → List Name
cycle_in declared = first_alone (filter (is_cyclic (pairs declared)) (map item_of declared))
