-- The types of a domain, subtypes, and what fits a type (Kovacs, `<types-def>`; that a type which only stands as a parent is a
-- child of `object`, and that `object` under `object` says nothing, is own).
use Rattle.std.specs.Prelude.{◌≡◌, ℕ, zero, suc, Bool, IsTrue, not, ◌&&◌, ◌||◌, List, ◌∷◌, ◌++◌, map, filter, length, bytes_eq, codes, Contains}
use Rattle.std.specs.List.{list_any, list_all}
use Rattle.pddl_formula.specs.TypedLists.{TypedValue}
use Rattle.pddl_domain.specs.Declarations.{TypeValue}
use Rattle.pddl_task.specs.Names.{Name, is_in, item_of}

-- ---- types and their parents

-- the type above all others
abbrev pub root : Name
root = codes "object"

-- a type's parent
abbrev pub parent_of : TypeValue → Name
parent_of e = e.of

-- `object` under `object`
abbrev pub says_nothing : TypeValue → Bool
says_nothing e = bytes_eq e.item root && bytes_eq e.of root

-- a child of `object`
abbrev pub under_root : Name → TypeValue
under_root t = record { item = t; of = root }

-- the types: `object`, the declared ones, and those that stand as a parent
abbrev pub types_of : List TypeValue → List Name
types_of declared = root ∷ map item_of declared ++ map parent_of declared

-- of the types that stand as a parent, those that only do so
abbrev pub only_parents : List TypeValue → List Name
only_parents declared = filter (λ t. not (is_in (root ∷ map item_of declared) t)) (map parent_of declared)

-- each type with its parent: as declared, and under `object` where it only stands as a parent
abbrev pub pairs : List TypeValue → List TypeValue
pairs declared = filter (λ e. not (says_nothing e)) declared ++ map under_root (only_parents declared)

-- ---- subtypes

-- under: a type is under itself, and under all that its parent is under
pub data Under (ps : List TypeValue) : Name → Name → Type 0 where
  itself : {t u : Name} → t ≡ u → Under ps t u
  climb : {t u : Name} (e : TypeValue) → Contains ps e → t ≡ e.item → Under ps e.of u → Under ps t u

-- above: a type's parent, and all that the parent is under
abbrev pub Above : List TypeValue → Name → Name → Type 0
Above ps t u = (e : TypeValue) × Contains ps e × (t ≡ e.item) × Under ps e.of u

-- a type of a domain is a subtype of another, or that type itself
abbrev pub IsSubtype : List TypeValue → Name → Name → Type 0
IsSubtype declared t u = IsTrue (is_in (types_of declared) t) × IsTrue (is_in (types_of declared) u) × Under (pairs declared) t u

-- ---- the same as tests

-- by at most so many steps from a type to its parent
abbrev pub reaches : List TypeValue → ℕ → Name → Name → Bool
reaches ps zero t u = bytes_eq t u
reaches ps (suc n) t u = bytes_eq t u || list_any (λ e. bytes_eq t e.item && reaches ps n e.of u) ps

-- a type is under another; there are no more steps to go than types with a parent
abbrev pub is_under : List TypeValue → Name → Name → Bool
is_under ps t u = reaches ps (length ps) t u

-- a type is above itself
abbrev pub is_cyclic : List TypeValue → Name → Bool
is_cyclic ps t = list_any (λ e. bytes_eq t e.item && is_under ps e.of t) ps

-- a type of a domain is a subtype of another, or that type itself
abbrev pub is_subtype : List TypeValue → Name → Name → Bool
is_subtype declared t u = is_in (types_of declared) t && (is_in (types_of declared) u && is_under (pairs declared) t u)

-- ---- what fits

-- A term fits a slot where each primitive of its type is under some primitive of the slot's. So an object, whose type is one
-- primitive, fits a type where that is under one of the type's primitives.
abbrev pub fits : List TypeValue → List Name → List Name → Bool
fits ps types slot = list_all (λ t. list_any (is_under ps t) slot) types

-- the objects that fit a type, in their order
abbrev pub fitting : List TypeValue → List TypedValue → List Name → List TypedValue
fitting ps objects slot = filter (λ o. fits ps o.of slot) objects
