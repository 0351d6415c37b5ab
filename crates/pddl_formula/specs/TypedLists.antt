-- Types and typed lists (Kovacs, `<typed list (x)>`, `<type>`).
use Rattle.std.specs.Prelude.{◌≡◌, ◌≢◌, ℕ, List, [], ◌∷◌, ◌++◌, map, codes}
use Rattle.pddl_token.specs.Trees.{Tree}
use Rattle.pddl_token.specs.TreeWords.{list, IsWord, IsDash, SpellsName, SpellsVariable, Each}
use Rattle.pddl_formula.specs.declared.type_names.Typed.{Typed}

-- ---- values

-- an item of a typed list with its type
pub record WithType (X T : Type 0) : Type 0 where
  pub item : X
  pub of : T

-- a name with its type
abbrev pub TypedValue : Type 0
TypedValue = WithType (List ℕ) (List (List ℕ))

-- a name with its type without where they lie in memory
abbrev pub typed_view : {A : _} → Typed A → TypedValue
typed_view x = record { item = x.name; of = x.types }

-- items of one type
abbrev pub of_type : {X T : Type 0} → List X → T → List (WithType X T)
of_type group type = map (λ x. record { item = x; of = type }) group

-- ---- which trees spell them

-- a primitive type
abbrev pub IsTypeName : List ℕ → Tree → Type 0
IsTypeName n t = SpellsName n t × (n ≢ codes "either")

-- a primitive type, or `(either primitive+)`; `(either t)` is `t` (own)
pub data IsType : List (List ℕ) → Tree → Type 0 where
  primitive : {n : List ℕ} {t : Tree} → IsTypeName n t → IsType (n ∷ []) t
  either : {n : List ℕ} {ns : List (List ℕ)} {t : Tree} (head : Tree) (ts : List Tree)
      → t ≡ list (head ∷ ts) → IsWord (codes "either") head → Each IsTypeName (n ∷ ns) ts → IsType (n ∷ ns) t

-- an item of this type
abbrev pub OfType : {X T : Type 0} → (X → Tree → Type 0) → T → WithType X T → Tree → Type 0
OfType IsItem type x t = IsItem x.item t × (x.of ≡ type)

-- `x+ - type`: items of this type, of which there is at least one
pub record IsGroup {X T : Type 0} (IsItem : X → Tree → Type 0) (IsTypeOf : T → Tree → Type 0) (group : List (WithType X T)) (ts : List Tree) : Type 0 where
  pub value : T
  pub items : List Tree
  pub dash : Tree
  pub type : Tree
  pub trees_are : ts ≡ items ++ dash ∷ type ∷ []
  pub some : group ≢ []
  pub each : Each (OfType IsItem value) group items
  pub is_dash : IsDash dash
  pub is_type : IsTypeOf value type

-- A typed list of x is `x*`, whose items have the default type, or `x+ - type` and then a typed list of x.
pub data IsTypedList {X T : Type 0} (IsItem : X → Tree → Type 0) (IsTypeOf : T → Tree → Type 0) (default : T) : List (WithType X T) → List Tree → Type 0 where
  untyped : {xs : List (WithType X T)} {ts : List Tree} → Each (OfType IsItem default) xs ts → IsTypedList IsItem IsTypeOf default xs ts
  typed : {all : List (WithType X T)} {whole : List Tree} (group ys : List (WithType X T)) (ts after : List Tree)
      → all ≡ group ++ ys → whole ≡ ts ++ after
      → IsGroup IsItem IsTypeOf group ts → IsTypedList IsItem IsTypeOf default ys after
      → IsTypedList IsItem IsTypeOf default all whole

-- the type of an item without one
abbrev pub object : List (List ℕ)
object = codes "object" ∷ []

-- names with their types: objects, constants
abbrev pub AreTypedNames : List TypedValue → List Tree → Type 0
AreTypedNames = IsTypedList SpellsName IsType object

-- variables with their types: parameters
abbrev pub AreTypedVariables : List TypedValue → List Tree → Type 0
AreTypedVariables = IsTypedList SpellsVariable IsType object

-- `(typed variables)`
abbrev pub IsVariableList : List TypedValue → Tree → Type 0
IsVariableList xs t = (ts : List Tree) × (t ≡ list ts) × AreTypedVariables xs ts
