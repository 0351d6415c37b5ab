-- Declarations of a domain, and the trees that spell them (Kovacs, `<types-def>`, `<predicates-def>`, `<functions-def>`).
use Rattle.std.specs.Prelude.{◌≡◌, ℕ, List, [], ◌∷◌, map, codes}
use Rattle.pddl_token.specs.Trees.{Tree}
use Rattle.pddl_token.specs.TreeWords.{list, SpellsName}
use Rattle.pddl_formula.specs.Terms.{IsPredicate}
use Rattle.pddl_formula.specs.TypedLists.{WithType, TypedValue, typed_view, IsTypeName, IsType, IsTypedList, AreTypedVariables}
use Rattle.pddl_domain.specs.declared.declared_types.DeclaredType.{DeclaredType}
use Rattle.pddl_domain.specs.declared.domain.DeclaredPredicate.{DeclaredPredicate}
use Rattle.pddl_domain.specs.declared.domain.DeclaredFunction.{DeclaredFunction}

-- ---- values

-- a type and its parent
abbrev pub TypeValue : Type 0
TypeValue = WithType (List ℕ) (List ℕ)

-- a predicate, or a function, and its parameters
pub record Signature : Type 0 where
  pub name : List ℕ
  pub parameters : List TypedValue

-- a function with the type of its result
abbrev pub FunctionValue : Type 0
FunctionValue = WithType Signature (List (List ℕ))

-- a declared type of the program without where it lies in memory
abbrev pub type_view : {A : _} → DeclaredType A → TypeValue
type_view t = record { item = t.name; of = t.parent.value }

-- a declared predicate without where it lies in memory
abbrev pub predicate_view : {A : _} → DeclaredPredicate A → Signature
predicate_view p = record { name = p.predicate; parameters = map typed_view p.parameters.items }

-- a declared function, likewise
abbrev pub function_view : {A : _} → DeclaredFunction A → FunctionValue
function_view f = record { item = record { name = f.name; parameters = map typed_view f.parameters.items }; of = f.result }

-- ---- which trees spell them

-- types with their parents; a type without one is under `object`, and neither is `either` (own)
abbrev pub AreTypes : List TypeValue → List Tree → Type 0
AreTypes = IsTypedList IsTypeName IsTypeName (codes "object")

-- `(p typed variables)`
abbrev pub IsPredicateSignature : Signature → Tree → Type 0
IsPredicateSignature p t = (head : Tree) × (ts : List Tree) × (t ≡ list (head ∷ ts)) × IsPredicate p.name head × AreTypedVariables p.parameters ts

-- `(f typed variables)`
abbrev pub IsFunctionSignature : Signature → Tree → Type 0
IsFunctionSignature f t = (head : Tree) × (ts : List Tree) × (t ≡ list (head ∷ ts)) × SpellsName f.name head × AreTypedVariables f.parameters ts

-- the type of a result without one
abbrev pub number : List (List ℕ)
number = codes "number" ∷ []

-- functions with the types of their results (Kovacs, `<function typed list (x)>`)
abbrev pub AreFunctions : List FunctionValue → List Tree → Type 0
AreFunctions = IsTypedList IsFunctionSignature IsType number
