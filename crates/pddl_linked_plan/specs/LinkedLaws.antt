-- What it is for steps by numbers to be linked to a task, without a plan that they are of (own).
use Rattle.std.specs.Prelude.{◌≡◌, ◌≤◌, ◌<◌, ◌⊎◌, ℕ, false, List, [], map, length, get_or, slice_get, Some, None, is_some, true}
use Rattle.std.specs.List.{AllByRecursion}
use Rattle.pddl_plan.specs.Plans.{StepValue}
use Rattle.pddl_domain.specs.Actions.{ActionValue}
use Rattle.pddl_task.specs.Names.{Name}
use Rattle.pddl_task.specs.GroundSize.{largest_size, action_size}
use Rattle.pddl_task.specs.Tasks.{TaskValue, object_names, task_count}
use Rattle.pddl_linked_plan.specs.StepFaults.{action_names, some_costless, most_steps}
use Rattle.pddl_linked_plan.specs.LinkedSteps.{LinkedStepValue}
use Rattle.pddl_linked_plan.specs.FittingObjects.{some_unfit}

-- the name of a number, from 0; past the last it is empty
abbrev pub name_at : List Name → ℕ → Name
name_at names n = get_or names n []

-- a step by the names of its action and its objects
abbrev pub named_step : TaskValue → LinkedStepValue → StepValue
named_step task s = record { action = name_at (action_names task) s.action; objects = map (name_at (object_names task)) s.objects }

-- a step is linked: its action is one of the task, with as many parameters as the step has objects; each object is one of the task
-- and fits its parameter; every increase that can fire has a cost, and the ground size is at most 1,000,000
pub record IsLinkedStep (task : TaskValue) (s : LinkedStepValue) : Type 0 where
  pub action : ActionValue
  pub action_is : slice_get task.actions s.action ≡ Some action
  pub as_many : length s.objects ≡ length action.parameters
  pub in_range : AllByRecursion (λ n. n < length task.objects) s.objects
  pub fitting : some_unfit task s.objects action.parameters ≡ false
  pub costs : some_costless task (named_step task s) action ≡ false
  pub within : action_size (task_count task) action ≤ largest_size

-- of steps, none has a moment, or each has one
abbrev pub HaveAlikeMoments : List LinkedStepValue → Type 0
HaveAlikeMoments steps = AllByRecursion (λ s. s.moment ≡ None) steps ⊎ AllByRecursion (λ s. is_some s.moment ≡ true) steps

-- so many steps as a plan may have, each linked, and with moments as those of a plan
pub record AreSoundSteps (task : TaskValue) (steps : List LinkedStepValue) : Type 0 where
  pub short : length steps ≤ most_steps
  pub each : AllByRecursion (IsLinkedStep task) steps
  pub alike : HaveAlikeMoments steps

-- a step that stands at no moment
abbrev pub without_moment : LinkedStepValue → LinkedStepValue
without_moment s = record { action = s.action; objects = s.objects; moment = None }
