-- The forms, happening by happening, in which serialisations and splits are proved to converge.
use Rattle.std.specs.Prelude.{◌≡◌, ℕ, Bool, List, [], ◌∷◌, ◌++◌, eqb, IsPermutation}
use Rattle.std.specs.List.{concat, IsDistinct, AllByRecursion}
use Rattle.pddl_happenings.specs.Accepted.{AllFine, after_all, cost_of_all}
use Rattle.pddl_happenings.specs.Serialisations.{RunsTo}
use Rattle.pddl_happenings.specs.Steps.{Step}

-- The groups of the first happening in some order, then those of the next, and so on.
abbrev pub IsSplit : List (List ℕ) → List (List ℕ) → Type 0
IsSplit [] gs = gs ≡ []
IsSplit (h ∷ hs) gs = (first : List (List ℕ)) × (rest : List (List ℕ)) × (gs ≡ first ++ rest) × IsPermutation h (concat first) × IsSplit hs rest

-- The steps of the first happening in some order, then those of the next, and so on.
abbrev pub IsSerialisation : List (List ℕ) → List ℕ → Type 0
IsSerialisation [] order = order ≡ []
IsSerialisation (h ∷ hs) order = (first : List ℕ) × (rest : List ℕ) × (order ≡ first ++ rest) × IsPermutation h first × IsSerialisation hs rest

-- No happening has a step twice.
abbrev pub EachOnce : List (List ℕ) → Type 0
EachOnce hs = AllByRecursion (IsDistinct eqb) hs

-- What holds of groups gs that do what the groups hs do.
pub record DoTheSame {A : Type 0} (p : ℕ → Step A) (s : A → Bool) (hs gs : List (List ℕ)) : Type 0 where
  pub fine : AllFine p s gs
  pub end : after_all p s gs ≡ after_all p s hs
  pub cost : cost_of_all p s gs ≡ cost_of_all p s hs

abbrev pub SplitsConverge : {A : Type 0} → (ℕ → Step A) → (A → Bool) → List (List ℕ) → Type 0
SplitsConverge p s hs = AllFine p s hs → (gs : List (List ℕ)) → IsSplit hs gs → DoTheSame p s hs gs

abbrev pub SerialisationsConverge : {A : Type 0} → (ℕ → Step A) → (A → Bool) → List (List ℕ) → Type 0
SerialisationsConverge p s hs = AllFine p s hs → (order : List ℕ) → IsSerialisation hs order → RunsTo p s hs order
