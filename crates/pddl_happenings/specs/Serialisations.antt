-- Serialisations of happenings, and serial runs, in which each step is executed alone. Own.
use Rattle.std.specs.Prelude.{◌≡◌, ℕ, zero, suc, ◌+◌, ◌≤◌, Bool, false, cond, List, [], ◌∷◌, IsPermutation, eqb}
use Rattle.std.specs.List.{list_any, concat, AllByRecursion}
use Rattle.pddl_happenings.specs.Steps.{Step}
use Rattle.pddl_happenings.specs.Accepted.{IsReady, after, after_all, cost_of_all}
use Rattle.pddl_happenings.specs.Happenings.{singles}

-- The place, from 0, of the happening that has a step.
abbrev pub place_of : List (List ℕ) → ℕ → ℕ
place_of [] k = 0
place_of (h ∷ hs) k = cond (list_any (eqb k) h) 0 (1 + place_of hs k)

-- No number of a list has a later place than one that comes after it.
abbrev pub InTurn : (ℕ → ℕ) → List ℕ → Type 0
InTurn place [] = Unit {0}
InTurn place (k ∷ ks) = AllByRecursion (λ j. place k ≤ place j) ks × InTurn place ks

-- A serialisation: the numbers of all steps, each once, those of an earlier happening before those of a later one.
pub record IsSerialOrder (hs : List (List ℕ)) (order : List ℕ) : Type 0 where
  pub each_once : IsPermutation (concat hs) order
  pub in_turn : InTurn (place_of hs) order

-- A serial run: each step's precondition is true in the state after the steps before it, each alone.
abbrev pub RunsSerially : {A : Type 0} → (ℕ → Step A) → (A → Bool) → List ℕ → Type 0
RunsSerially p s [] = Unit {0}
RunsSerially p s (k ∷ ks) = IsReady p s k × RunsSerially p (after p s (k ∷ [])) ks

-- The step at a place, from 0, is the first whose precondition is false in the state after the steps before it, each alone.
abbrev pub FailsAt : {A : Type 0} → (ℕ → Step A) → (A → Bool) → List ℕ → ℕ → Type 0
FailsAt p s [] place = ⊥
FailsAt p s (k ∷ ks) zero = (p k).ready s ≡ false
FailsAt p s (k ∷ ks) (suc place) = IsReady p s k × FailsAt p (after p s (k ∷ [])) ks place

-- The steps run serially in an order, to the end and at the cost of the happenings.
pub record RunsTo {A : Type 0} (p : ℕ → Step A) (s : A → Bool) (hs : List (List ℕ)) (order : List ℕ) : Type 0 where
  pub runs : RunsSerially p s order
  pub end : after_all p s (singles order) ≡ after_all p s hs
  pub cost : cost_of_all p s (singles order) ≡ cost_of_all p s hs

-- Convergence: every serialisation runs, to the end and at the cost of the happenings.
abbrev pub Converges : {A : Type 0} → (ℕ → Step A) → (A → Bool) → List (List ℕ) → Type 0
Converges p s hs = (order : List ℕ) → IsSerialOrder hs order → RunsTo p s hs order
