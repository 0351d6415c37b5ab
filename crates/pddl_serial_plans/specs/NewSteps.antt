-- Plans that have the steps of another one, in an order of their own. Own.
use Rattle.std.specs.Prelude.{ℕ, ◌*◌, List, [], ◌∷◌, map, None, Some, slice_index_or}
use Rattle.std.specs.Option.{unwrap_or}
use Rattle.pddl_plan.specs.Plans.{TimedValue, PlanValue, plain, timed}
use Rattle.pddl_task.specs.Tasks.{TaskValue}
use Rattle.pddl_linked_plan.specs.LinkedSteps.{LinkedStepValue}
use Rattle.pddl_linked_plan.specs.LinkedLaws.{named_step}

-- what stands past the last step
abbrev pub no_step : LinkedStepValue
no_step = record { action = 0; objects = []; moment = None }

-- the steps of these numbers, in turn
abbrev pub picked : List LinkedStepValue → List ℕ → List LinkedStepValue
picked steps order = map (λ k. slice_index_or steps k no_step) order

-- a step at a moment of so many whole units
abbrev pub at_moment : LinkedStepValue → ℕ → LinkedStepValue
at_moment s m = record { action = s.action; objects = s.objects; moment = Some (m * 1000000000) }

-- steps, each at its moment
abbrev pub at_moments : List LinkedStepValue → List ℕ → List LinkedStepValue
at_moments [] ms = []
at_moments (s ∷ steps) [] = []
at_moments (s ∷ steps) (m ∷ ms) = at_moment s m ∷ at_moments steps ms

-- a step with a moment, by its names
abbrev pub timed_step : TaskValue → LinkedStepValue → TimedValue
timed_step task s = record { moment = unwrap_or s.moment 0; step = named_step task s }

-- the plain plan of steps, by their names
abbrev pub plain_plan : TaskValue → List LinkedStepValue → PlanValue
plain_plan task steps = plain (map (named_step task) steps)

-- their timed plan; of no steps it is plain
abbrev pub timed_plan : TaskValue → List LinkedStepValue → PlanValue
timed_plan task [] = plain []
timed_plan task (s ∷ steps) = timed (timed_step task s ∷ map (timed_step task) steps)
