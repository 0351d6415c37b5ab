-- Types by spans of numbers: what is under a type has its numbers in the type's span. Own.
use mathlib.Core.HLevel.{×_prop, Unit-prop, ⊥_prop}
use Rattle.std.proofs.Props.{props}
use Rattle.std.specs.Prelude.{◌≡◌, ◌<◌, ℕ, Bool, IsTrue, List, [], ◌∷◌, map, length}
use Rattle.std.specs.List.{AllZip, list_any, list_all}
use Rattle.pddl_forest.specs.Spans.{some_holds, span_at, AreTops}
use Rattle.pddl_forest.specs.declared.spans.Span.{Span}
use Rattle.pddl_formula.specs.TypedLists.{TypedValue}
use Rattle.pddl_domain.specs.Declarations.{TypeValue}
use Rattle.pddl_task.specs.Names.{Name, is_in, number_in}
use Rattle.pddl_task.specs.Types.{types_of, pairs, is_under}

-- the types that are declared, and the names of all types with their spans, in the order of a table
pub record TypesValue : Type 0 where
  pub declared : List TypeValue
  pub names : List Name
  pub spans : List Span

-- the span of a type, or one behind all numbers where the name is no type
abbrev pub span_of : TypesValue → Name → Span
span_of t n = span_at t.spans (number_in t.names n)

-- ---- what is told of types

-- tops of a type's primitives, of which there are some
pub record IsTold (t : TypesValue) (names : List Name) (tops : List Span) : Type 0 where
  pub some : 0 < length names
  pub tops_are : AreTops (map (span_of t) names) tops

-- all names are types
abbrev pub are_types : List TypeValue → List Name → Bool
are_types declared names = list_all (is_in (types_of declared)) names

-- Tops of a slot hold the first number of a type's span where the type is under some primitive of the slot.
abbrev pub DoTell : TypesValue → Type 0
DoTell t = (n : Name) (slot : List Name) (tops : List Span) → IsTold t slot tops → IsTrue (is_in (types_of t.declared) n)
    → some_holds tops (span_of t n).first ≡ list_any (is_under (pairs t.declared) n) slot

-- ---- objects

-- the type has one primitive, which is one of the domain's types, and has this number
pub record IsNumberOf (t : TypesValue) (types : List Name) (number : ℕ) : Type 0 where
  pub one : map (λ n. (span_of t n).first) types ≡ number ∷ []
  pub known : IsTrue (are_types t.declared types)

-- each of some objects has a type of such a number
abbrev pub AreNumbered : TypesValue → List TypedValue → List ℕ → Type 0
AreNumbered t objects numbers = AllZip (λ x. IsNumberOf t x.of) objects numbers

pub AreNumbered-prop : (t : TypesValue) (objects : List TypedValue) (numbers : List ℕ) → IsProp (AreNumbered t objects numbers)
AreNumbered-prop t [] [] = Unit-prop
AreNumbered-prop t [] (n ∷ numbers) = ⊥_prop
AreNumbered-prop t (x ∷ objects) [] = ⊥_prop
AreNumbered-prop t (x ∷ objects) (n ∷ numbers) = ×_prop (Prim.hlevel props) (AreNumbered-prop t objects numbers)
