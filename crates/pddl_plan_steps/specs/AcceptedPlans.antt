-- When a linked plan is accepted, over the ground atoms of its task.
use Rattle.std.specs.Prelude.{◌≡◌, ℕ, true, List, map, length, Option, None, is_some}
use Rattle.std.specs.List.{AllByRecursion}
use Rattle.std.specs.Option.{unwrap_or}
use Rattle.pddl_task.specs.Tasks.{TaskValue}
use Rattle.pddl_happenings.specs.Accepted.{IsAcceptedRun}
use Rattle.pddl_happenings.specs.Happenings.{AreOfTimed, AreOfPlain}
use Rattle.pddl_meaning.specs.Worlds.{Atoms}
use Rattle.pddl_linked_plan.specs.LinkedSteps.{LinkedStepValue}
use Rattle.pddl_plan_steps.specs.PlanSteps.{named_steps, initial_state, goal_of}

-- the moments of steps that have one each
abbrev pub moments_in : List LinkedStepValue → List ℕ
moments_in steps = map (λ s. unwrap_or s.moment 0) steps

-- Happenings, as a list of their moments and a list of their steps' numbers, are those of linked steps: where each step has a moment,
-- those of the timed plan (Fox and Long), and where none has one, those of the plain plan (own).
pub record AreHappeningsOf (steps : List LinkedStepValue) (at : List (Option ℕ)) (gs : List (List ℕ)) : Type 0 where
  pub timed : AllByRecursion (λ s. is_some s.moment ≡ true) steps → AreOfTimed (moments_in steps) at gs
  pub plain : AllByRecursion (λ s. s.moment ≡ None) steps → AreOfPlain (length steps) at gs

-- What is said holds of the steps of a plan's happenings.
abbrev pub OfHappenings : List LinkedStepValue → (List (List ℕ) → Type 0) → Type 0
OfHappenings steps P = (at : List (Option ℕ)) (gs : List (List ℕ)) → AreHappeningsOf steps at gs → P gs

-- A linked plan is accepted with an end and a cost: its happenings are, from the atoms that hold at first, for the goal (Fox and Long;
-- that preconditions come before clashes is own, and so are costs).
abbrev pub IsAcceptedPlan : TaskValue → List LinkedStepValue → Atoms → ℕ → Type 0
IsAcceptedPlan task steps end cost = OfHappenings steps (λ gs. IsAcceptedRun (named_steps task steps) (goal_of task) (initial_state task) gs end cost)
