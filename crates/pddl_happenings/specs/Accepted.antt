-- States, and accepted lists of happenings. A plan gives each number a step, and a happening is here the list of the numbers of
-- its steps. Fox and Long, PDDL2.1, JAIR 20, 2003.
use Rattle.std.specs.Prelude.{◌≡◌, ◌≢◌, ℕ, ◌+◌, Bool, true, false, not, ◌&&◌, ◌||◌, List, [], ◌∷◌, All, Contains, sum_by}
use Rattle.std.specs.List.{list_any}
use Rattle.pddl_happenings.specs.Steps.{Step, clash}

-- The state after a happening: the state minus all that its steps delete in it, plus all that its steps add in it.
abbrev pub after : {A : Type 0} → (ℕ → Step A) → (A → Bool) → List ℕ → A → Bool
after p s g a = (s a && not (list_any (λ h. (p h).dels s a) g)) || list_any (λ h. (p h).adds s a) g

-- What a happening costs in a state: the sum of what its steps cost.
abbrev pub cost_of : {A : Type 0} → (ℕ → Step A) → (A → Bool) → List ℕ → ℕ
cost_of p s g = sum_by (λ h. (p h).cost s) g

-- The precondition of the step of a number is true in a state.
abbrev pub IsReady : {A : Type 0} → (ℕ → Step A) → (A → Bool) → ℕ → Type 0
IsReady p s h = (p h).ready s ≡ true

-- The steps of two numbers have no clash in a state.
abbrev pub NoClash : {A : Type 0} → (ℕ → Step A) → (A → Bool) → ℕ → ℕ → Type 0
NoClash {A} p s h k = (a : A) → clash (p h) (p k) s a ≡ false

-- No two different steps of a happening interfere in a state.
abbrev pub NoneInterfere : {A : Type 0} → (ℕ → Step A) → (A → Bool) → List ℕ → Type 0
NoneInterfere p s g = (h k : ℕ) → Contains g h → Contains g k → h ≢ k → NoClash p s h k

-- A happening passes in a state: each of its preconditions is true there, and no two of its steps interfere.
pub record IsFine {A : Type 0} (p : ℕ → Step A) (s : A → Bool) (g : List ℕ) : Type 0 where
  pub ready : All (IsReady p s) g
  pub apart : NoneInterfere p s g

-- Happenings one after another: each passes in the state after those before it.
abbrev pub AllFine : {A : Type 0} → (ℕ → Step A) → (A → Bool) → List (List ℕ) → Type 0
AllFine p s [] = Unit {0}
AllFine p s (g ∷ gs) = IsFine p s g × AllFine p (after p s g) gs

-- The state after them.
abbrev pub after_all : {A : Type 0} → (ℕ → Step A) → (A → Bool) → List (List ℕ) → A → Bool
after_all p s [] = s
after_all p s (g ∷ gs) = after_all p (after p s g) gs

-- What they cost together.
abbrev pub cost_of_all : {A : Type 0} → (ℕ → Step A) → (A → Bool) → List (List ℕ) → ℕ
cost_of_all p s [] = 0
cost_of_all p s (g ∷ gs) = cost_of p s g + cost_of_all p (after p s g) gs

-- Happenings are accepted, from a state, with an end and a cost: each passes in its turn, and the goal is true in the end.
pub record IsAcceptedRun {A : Type 0} (p : ℕ → Step A) (goal : (A → Bool) → Bool) (start : A → Bool) (gs : List (List ℕ)) (end : A → Bool) (cost : ℕ) : Type 0 where
  pub fine : AllFine p start gs
  pub end_is : end ≡ after_all p start gs
  pub goal_holds : goal end ≡ true
  pub cost_is : cost ≡ cost_of_all p start gs

-- Happenings are not accepted, with whatever end and cost.
abbrev pub NotAccepted : {A : Type 0} → (ℕ → Step A) → ((A → Bool) → Bool) → (A → Bool) → List (List ℕ) → Type 0
NotAccepted {A} p goal start gs = (end : A → Bool) (cost : ℕ) → IsAcceptedRun p goal start gs end cost → ⊥
