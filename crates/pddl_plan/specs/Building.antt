-- A plan in making.
use Rattle.std.specs.Prelude.{◌≡◌, ◌≤◌, ◌⊎◌, ℕ, Bool, true, false, nat_le, List, [], ◌∷◌, ◌++◌, Option, Some, None, length, IsTrue}
use Rattle.std.specs.List.{list_all}
use Rattle.pddl_token.specs.Number.{largest}
use Rattle.pddl_token.specs.Names.{is_name}
use Rattle.pddl_plan.specs.Cuts.{last_end, Rises}
use Rattle.pddl_plan.specs.NameLists.{AddsName}

-- the moments and the names of the steps that are ended, and the names of the one that is not
pub record Building : Type 0 where
  pub moments : List ℕ
  pub steps : List (List (List ℕ))
  pub names : List (List ℕ)

abbrev pub nothing_built : Building
nothing_built = record { moments = []; steps = []; names = [] }

-- a name was added to the step that is not ended, where there is one
pub record AddsWord (is : Bool) (name : Option (List ℕ)) (old new : Building) : Type 0 where
  pub moments : new.moments ≡ old.moments
  pub steps : new.steps ≡ old.steps
  pub names : AddsName is name old.names new.names

-- names, where there are some, or any
abbrev pub AddsAll : Bool → Option (List (List ℕ)) → List (List ℕ) → List (List ℕ) → Type 0
AddsAll true (Some names) old new = new ≡ old ++ names
AddsAll false None old new = Unit {0}
AddsAll _ _ old new = ⊥

-- names were added to the step that is not ended, where there are some
pub record AddsNames (is : Bool) (found : Option (List (List ℕ))) (old new : Building) : Type 0 where
  pub moments : new.moments ≡ old.moments
  pub steps : new.steps ≡ old.steps
  pub names : AddsAll is found old.names new.names

-- names were added to the step that is not ended
abbrev pub with_names : Building → List (List ℕ) → Building
with_names b names = record { moments = b.moments; steps = b.steps; names = b.names ++ names }

-- the step that is not ended has no names
abbrev pub without_names : Building → Building
without_names b = record { moments = b.moments; steps = b.steps; names = [] }

-- the step is ended
abbrev pub ended : Building → Building
ended b = record { moments = b.moments; steps = b.steps ++ b.names ∷ []; names = [] }

-- the step is ended, and has a moment
abbrev pub ended_at : ℕ → Building → Building
ended_at m b = record { moments = b.moments ++ m ∷ []; steps = b.steps ++ b.names ∷ []; names = [] }

-- a number in range
abbrev pub is_moment : ℕ → Bool
is_moment m = nat_le m largest

-- The steps are the parts of a list of names that end at these places; none has a moment, or each has one.
pub record AreStepsIn (names : List (List ℕ)) (ends moments : List ℕ) : Type 0 where
  pub rises : Rises 0 ends
  pub within : last_end 0 ends ≤ length names
  pub kinds : (moments ≡ []) ⊎ (length moments ≡ length ends)
  pub in_range : IsTrue (list_all is_moment moments)
  pub named : IsTrue (list_all is_name names)
