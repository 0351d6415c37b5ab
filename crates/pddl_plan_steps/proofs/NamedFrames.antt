-- What a step does by names depends only on the atoms that it reads.
use Rattle.std.proofs.Common.{ℕ, List, refl}
use Rattle.std.specs.Prelude.{Option, Some, None, slice_get}
use Rattle.std.specs.Option.{option_map_or}
use Rattle.pddl_domain.specs.Actions.{ActionValue}
use Rattle.pddl_task.specs.Tasks.{TaskValue}
use Rattle.pddl_happenings.specs.Steps.{IsFramed}
use Rattle.pddl_meaning.specs.Steps.{step_of}
use Rattle.pddl_meaning.proofs.Frame.{steps_framed}
use Rattle.pddl_linked_plan.specs.LinkedLaws.{named_step}
use Rattle.pddl_linked_plan.specs.LinkedSteps.{LinkedStepValue}
use Rattle.pddl_plan_steps.specs.PlanSteps.{idle, named_steps}

-- the steps by names do what depends only on what they read
module _ (task : TaskValue) (steps : List LinkedStepValue) where
  at_action : (s : LinkedStepValue) (o : Option ActionValue) → IsFramed (option_map_or (λ a. step_of task a (named_step task s).objects) o idle)
  at_action s (Some a) = steps_framed task a (named_step task s).objects
  at_action s None = record { ready = λ s t agree. refl; adds = λ s t agree x. refl; dels = λ s t agree x. refl; cost = λ s t agree. refl }

  at_step : (o : Option LinkedStepValue) → IsFramed (option_map_or (λ s. option_map_or (λ a. step_of task a (named_step task s).objects) (slice_get task.actions s.action) idle) o idle)
  at_step (Some s) = at_action s (slice_get task.actions s.action)
  at_step None = record { ready = λ s t agree. refl; adds = λ s t agree x. refl; dels = λ s t agree x. refl; cost = λ s t agree. refl }

  pub named_framed : (k : ℕ) → IsFramed (named_steps task steps k)
  named_framed k = at_step (slice_get steps k)
