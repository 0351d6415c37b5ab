-- Groups of a list: items that follow each other and have one type.
use Rattle.std.specs.Prelude.{◌≡◌, ◌<◌, ◌-◌, ℕ, Bool, true, false, List, ◌++◌, Some, slice_get, slice_index_or}
use Rattle.pddl_formula.specs.TypedLists.{WithType}

-- whether the item at a place is in one group with the item before it; one that has no answer is not
abbrev pub shares_at : List Bool → ℕ → Bool
shares_at groups place = slice_index_or groups place false

-- there are items at both places, of one type
abbrev pub HaveOneType : {X T : Type 0} → List (WithType X T) → ℕ → ℕ → Type 0
HaveOneType {X} {T} xs i j = (x y : WithType X T) × (slice_get xs i ≡ Some x) × (slice_get xs j ≡ Some y) × (x.of ≡ y.of)

-- an item that is in one group with the item before it has the type of that item, which there is
abbrev pub AreGrouped : {X T : Type 0} → List (WithType X T) → List Bool → Type 0
AreGrouped xs groups = (i : ℕ) → shares_at groups i ≡ true → (0 < i) × HaveOneType xs (i - 1) i

-- the second list is the first and then more
abbrev pub IsGrown : {X : Type 0} → List X → List X → Type 0
IsGrown {X} xs all = (more : List X) × (all ≡ xs ++ more)
