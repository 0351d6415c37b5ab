-- Types by the numbers at which they are told, with the tops of their primitives. Own.
use Rattle.std.specs.Prelude.{◌≡◌, ◌<◌, ◌==◌, ◌&&◌, ℕ, Bool, IsTrue, List, [], ◌++◌, Some, filter, length, not, option_map, slice_get}
use Rattle.std.specs.Borrow.{Bor}
use Rattle.std.specs.List.{All, AllZip, IsDistinct, flat_map}
use Rattle.std.specs.Map.{keys_of, lookup}
use Rattle.std.specs.Option.{option_map_or}
use Rattle.pddl_forest.specs.Spans.{hold_all}
use Rattle.pddl_forest.specs.declared.spans.Span.{Span}
use Rattle.pddl_formula.specs.TypedLists.{TypedValue}
use Rattle.pddl_domain.specs.Declarations.{TypeValue}
use Rattle.pddl_task.specs.Names.{Name, is_in, same_names}
use Rattle.pddl_task.specs.Types.{types_of}
use Rattle.pddl_task.specs.Faults.{primitives_of}
use Rattle.pddl_types.specs.TypeSpans.{TypesValue, IsTold, are_types}

-- of typed names and variables, the primitive types that are none of these types
abbrev pub unknown_among : List TypeValue → List TypedValue → List Name
unknown_among declared xs = filter (λ t. not (is_in (types_of declared) t)) (flat_map primitives_of xs)

-- types that are lent, with their tops
abbrev pub ToldValue : Type 0
ToldValue = List (Bor (List Name) × List Span)

-- the tops of the type of a number
abbrev pub tops_at : ToldValue → ℕ → List Span
tops_at told number = option_map_or (λ e. e.1) (slice_get told number) []

-- the first number of these, or 0 where there are none
abbrev pub first_at : ToldValue → ℕ → ℕ
first_at told number = option_map_or (λ s. s.first) (slice_get (tops_at told number) 0) 0

-- the type of a number
abbrev pub IsAt : ToldValue → List Name → ℕ → Type 0
IsAt told names number = option_map (λ e. e.0.now) (slice_get told number) ≡ Some names

-- the types of items have these numbers
abbrev pub AreAt : ToldValue → List TypedValue → List ℕ → Type 0
AreAt told items numbers = AllZip (λ x. IsAt told x.of) items numbers

-- no type is told twice
abbrev pub AreDistinct : ToldValue → Type 0
AreDistinct told = IsDistinct (λ t u. same_names t.now u.now) (keys_of told)

-- no type is told twice, the primitives of each are types, and these are their tops
pub record AreTold (t : TypesValue) (told : ToldValue) : Type 0 where
  pub once : AreDistinct told
  pub each : All (λ e. IsTold t e.0.now e.1 × IsTrue (are_types t.declared e.0.now)) told

-- what was told is told still, at its number
abbrev pub AreKept : ToldValue → ToldValue → Type 0
AreKept before after = (more : ToldValue) × (after ≡ before ++ more)

-- a type has this number, with these tops
abbrev pub HasTops : ToldValue → ℕ → List Span → Type 0
HasTops told number tops = (number < length told) × (tops ≡ tops_at told number)

-- of two numbers of types, whether the tops of the second hold those of the first
abbrev pub IsFit : ToldValue → ℕ × ℕ → Bool → Type 0
IsFit told p fit = (p.0 < length told) × (p.1 < length told) × (fit ≡ hold_all (tops_at told p.1) (tops_at told p.0))

-- a table says so of some pairs
abbrev pub AreFitting : ToldValue → List ((ℕ × ℕ) × Bool) → Type 0
AreFitting told table = (p : ℕ × ℕ) (fit : Bool) → lookup (λ q. (p.0 == q.0) && (p.1 == q.1)) table ≡ Some fit → IsFit told p fit
