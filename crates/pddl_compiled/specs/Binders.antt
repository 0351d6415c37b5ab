-- Variables of a quantifier that are bound one after another. No public contract names these.
use Rattle.std.specs.Prelude.{◌≡◌, ◌-◌, ℕ, Bool, false, List, [], ◌∷◌, ◌++◌, Option, Some, None, slice_get}
use Rattle.pddl_task.specs.Names.{Name}
use Rattle.pddl_formula.specs.TypedLists.{TypedValue}
use Rattle.pddl_compiled.specs.Compiler.{Slot, BinderValue}

-- the one object of a range that has one alone
abbrev pub only : List ℕ → Option ℕ
only [] = None
only (o ∷ []) = Some o
only (o ∷ p ∷ os) = None

-- these objects fit the variable at a place
abbrev pub IsRange : (List Name → List ℕ) → List TypedValue → ℕ → List ℕ → Type 0
IsRange range xs i found = (y : TypedValue) → slice_get xs i ≡ Some y → found ≡ range y.of

-- if there is an object, it alone fits the variable before a place
abbrev pub IsLast : (List Name → List ℕ) → List TypedValue → ℕ → Option ℕ → Type 0
IsLast range xs i last = (n : ℕ) → last ≡ Some n → IsRange range xs (i - 1) (n ∷ [])

-- no variables
abbrev pub unbound : BinderValue
unbound = record { slots = []; ranges = []; closed = false }

-- behind slots and ranges that were there stand those of more variables
pub record IsBound (slots new : List (Name × Slot)) (ranges more : List (List ℕ)) (closed : Bool) (b : BinderValue) : Type 0 where
  pub slots_are : new ≡ slots ++ b.slots
  pub ranges_are : more ≡ ranges ++ b.ranges
  pub closed_is : closed ≡ b.closed
