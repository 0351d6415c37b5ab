-- Splits of happenings, and plans that have the steps of another in an order of their own. Own.
use Rattle.std.specs.Prelude.{◌≡◌, ℕ, ◌+◌, ◌<◌, Bool, true, List, [], ◌∷◌, ◌++◌, map, eqb, length, slice_index}
use Rattle.std.specs.List.{list_any, list_all, concat, AllByRecursion}
use Rattle.pddl_happenings.specs.Steps.{Step}
use Rattle.pddl_happenings.specs.Happenings.{numbers_to}
use Rattle.pddl_happenings.specs.Serialisations.{IsSerialOrder}

-- Whether some happening has each step of a group.
abbrev pub within_one : List (List ℕ) → List ℕ → Bool
within_one hs g = list_any (λ h. list_all (λ k. list_any (eqb k) h) g) hs

-- A split: groups of step numbers, none empty, each within one happening, whose joined list is a serialisation.
pub record IsSplitOf (hs gs : List (List ℕ)) : Type 0 where
  pub none_empty : AllByRecursion (λ g. g ≡ [] → ⊥) gs
  pub within : AllByRecursion (λ g. within_one hs g ≡ true) gs
  pub in_turn : IsSerialOrder hs (concat gs)

-- The plan q has the steps of the plan p in an order: its k-th step is the step of the k-th number.
abbrev pub AreStepsOf : {A : Type 0} → (ℕ → Step A) → (ℕ → Step A) → List ℕ → Type 0
AreStepsOf p q order = (k : ℕ) → k < length order → q k ≡ p (slice_index order k)

-- Groups of the numbers from i on, as long as the groups of a list.
abbrev pub numbered : ℕ → List (List ℕ) → List (List ℕ)
numbered i [] = []
numbered i (g ∷ gs) = numbers_to i (length g) ∷ numbered (i + length g) gs

-- The moments of the steps of groups one after another: i for those of the first, i + 1 for those of the next, and so on.
abbrev pub split_moments : ℕ → List (List ℕ) → List ℕ
split_moments i [] = []
split_moments i (g ∷ gs) = map (λ k. i) g ++ split_moments (i + 1) gs
