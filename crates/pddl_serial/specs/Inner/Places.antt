-- Serialisations and splits by the place of each step's happening. No public contract names them: they are how the code tests.
use Rattle.std.specs.Prelude.{◌≡◌, ℕ, ◌<◌, Bool, true, false, List, [], ◌∷◌, eqb, ◌==◌}
use Rattle.std.specs.List.{list_any, list_all, IsDistinct, AllByRecursion}
use Rattle.pddl_happenings.specs.Serialisations.{InTurn}

-- A list has all numbers below n, each once, and no number stands behind one of a later place.
pub record IsOrderBy (place : ℕ → ℕ) (n : ℕ) (order : List ℕ) : Type 0 where
  pub within : AllByRecursion (λ k. k < n) order
  pub once : IsDistinct eqb order
  pub all : (k : ℕ) → k < n → list_any (eqb k) order ≡ true
  pub turn : InTurn place order

-- A group has a step, and each of its steps has the place of the first.
abbrev pub is_at_one : (ℕ → ℕ) → List ℕ → Bool
is_at_one place [] = false
is_at_one place (k ∷ ks) = list_all (λ j. place j == place k) ks
