-- Actions that are marked where steps use them (own).
use Rattle.std.specs.Prelude.{◌≡◌, ℕ, Bool, true, List, Some, slice_get}
use Rattle.pddl_linked_plan.specs.LinkedSteps.{LinkedStepValue}

-- actions are marked by their numbers: those of all steps
abbrev pub AreMarked : List LinkedStepValue → List Bool → Type 0
AreMarked steps marks = (k : ℕ) (s : LinkedStepValue) → slice_get steps k ≡ Some s → slice_get marks s.action ≡ Some true
