-- Steps by their names. No public contract names these.
use Rattle.std.specs.Prelude.{◌≡◌, ℕ, List, ◌∷◌, true, Option, Some, None}
use Rattle.pddl_plan.specs.Building.{Building, AddsNames}
use Rattle.pddl_plan.specs.Plans.{StepValue, TimedValue}

-- the names of a step, the action's first
abbrev pub names_of_step : StepValue → List (List ℕ)
names_of_step step = step.action ∷ step.objects

-- the names of a timed step were added, where there is one, of which the moment is answered
abbrev pub AddsTimed : Option ℕ → Option TimedValue → Building → Building → Type 0
AddsTimed (Some moment) (Some s) old new = (moment ≡ s.moment) × AddsNames true (Some (names_of_step s.step)) old new
AddsTimed None None old new = (new.moments ≡ old.moments) × (new.steps ≡ old.steps)
AddsTimed _ _ old new = ⊥
