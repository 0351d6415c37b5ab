-- Where a list of happenings fails first. In a happening the preconditions come before the clashes, own; steps and pairs
-- of steps stand in file order.
use Rattle.std.specs.Prelude.{◌≡◌, ℕ, zero, suc, Bool, true, false, List, [], ◌∷◌, All, slice_index}
use Rattle.std.specs.List.{AllByRecursion}
use Rattle.pddl_happenings.specs.Steps.{Step, clash}
use Rattle.pddl_happenings.specs.Accepted.{IsReady, NoClash, IsFine, after}

-- Q holds at a place of a list, and P of all that stand before it.
abbrev pub FirstAt : {X : Type 0} → (X → Type 0) → (X → Type 0) → List X → ℕ → Type 0
FirstAt P Q [] place = ⊥
FirstAt P Q (x ∷ xs) zero = Q x
FirstAt P Q (x ∷ xs) (suc place) = P x × FirstAt P Q xs place

-- Q holds of the two at the places i and j, i before j, and P of each two that stand before them in lexicographical order.
abbrev pub FirstPairAt : {X : Type 0} → (X → X → Type 0) → (X → X → Type 0) → List X → ℕ → ℕ → Type 0
FirstPairAt P Q [] i j = ⊥
FirstPairAt P Q (x ∷ xs) i zero = ⊥
FirstPairAt P Q (x ∷ xs) zero (suc j) = FirstAt (P x) (Q x) xs j
FirstPairAt P Q (x ∷ xs) (suc i) (suc j) = AllByRecursion (P x) xs × FirstPairAt P Q xs i j

-- The step is the first of a happening whose precondition is false in a state.
pub record IsFirstUnready {A : Type 0} (p : ℕ → Step A) (s : A → Bool) (g : List ℕ) (step : ℕ) : Type 0 where
  pub place : ℕ
  pub is : slice_index g place ≡ step
  pub first : FirstAt (IsReady p s) (λ k. (p k).ready s ≡ false) g place

-- All preconditions of a happening are true in a state, and two steps are the first pair of it, in lexicographical order,
-- that interferes there; Named holds of their clash.
pub record IsFirstClash {A : Type 0} (p : ℕ → Step A) (Named : (A → Bool) → Type 0) (s : A → Bool) (g : List ℕ) (first second : ℕ) : Type 0 where
  pub ready : All (IsReady p s) g
  pub first_place : ℕ
  pub second_place : ℕ
  pub first_is : slice_index g first_place ≡ first
  pub second_is : slice_index g second_place ≡ second
  pub pair : FirstPairAt (NoClash p s) (λ h k. Named (clash (p h) (p k) s)) g first_place second_place

-- The atom is in a set.
abbrev pub Has : {A : Type 0} → A → (A → Bool) → Type 0
Has a s = s a ≡ true

-- P holds of the happening at a place, from 0, in the state after those before it, and each of these passes in its turn.
abbrev pub AtHappening : {A : Type 0} → (ℕ → Step A) → ((A → Bool) → List ℕ → Type 0) → (A → Bool) → List (List ℕ) → ℕ → Type 0
AtHappening p P s [] n = ⊥
AtHappening p P s (g ∷ gs) zero = P s g
AtHappening p P s (g ∷ gs) (suc n) = IsFine p s g × AtHappening p P (after p s g) gs n
