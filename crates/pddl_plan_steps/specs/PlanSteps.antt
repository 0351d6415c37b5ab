-- What the steps of a linked plan do, by names and by numbers, and where a plan starts and ends (own).
use Rattle.std.specs.Prelude.{ℕ, Bool, true, false, List, [], slice_get}
use Rattle.std.specs.List.{list_any}
use Rattle.std.specs.Option.{option_map_or}
use Rattle.pddl_domain.specs.Actions.{ActionValue}
use Rattle.pddl_problem.specs.Inits.{GroundValue}
use Rattle.pddl_task.specs.Names.{Name}
use Rattle.pddl_task.specs.Faults.{same_ground}
use Rattle.pddl_task.specs.Tasks.{TaskValue, fitting_names}
use Rattle.pddl_state.specs.Atoms.{AtomValue}
use Rattle.pddl_state.specs.AtomSets.{is_listed}
use Rattle.pddl_happenings.specs.Steps.{Step}
use Rattle.pddl_happenings.specs.NamedSteps.{by_name}
use Rattle.pddl_meaning.specs.Worlds.{Atoms}
use Rattle.pddl_meaning.specs.Truth.{truth}
use Rattle.pddl_meaning.specs.Steps.{step_of}
use Rattle.pddl_linked_plan.specs.LinkedSteps.{LinkedStepValue}
use Rattle.pddl_linked_plan.specs.LinkedLaws.{named_step}
use Rattle.pddl_linked_plan.specs.NumberedAtoms.{initial_atoms}
use Rattle.pddl_plan_steps.specs.NumberedSteps.{number_of, numbered_step}

-- a step that is always ready and does nothing
abbrev pub idle : {A : Type 0} → Step A
idle = record { ready = λ s. true; reads = λ x. false; adds = λ s x. false; dels = λ s x. false; cost = λ s. 0 }

-- The steps of a plan by their numbers in file order, from 0, where it is said what an action with named objects does; past the last
-- nothing is done.
abbrev pub planned : {A : Type 0} → (ActionValue → List Name → Step A) → TaskValue → List LinkedStepValue → ℕ → Step A
planned does task steps k = option_map_or (λ s. option_map_or (λ a. does a (named_step task s).objects) (slice_get task.actions s.action) idle) (slice_get steps k) idle

-- over ground atoms
abbrev pub named_steps : TaskValue → List LinkedStepValue → ℕ → Step GroundValue
named_steps task = planned (step_of task) task

-- over their numbers
abbrev pub numbered_steps : TaskValue → List LinkedStepValue → ℕ → Step AtomValue
numbered_steps task = planned (numbered_step task) task

-- the atoms that hold at first (Fox and Long)
abbrev pub initial_state : TaskValue → Atoms
initial_state task g = list_any (same_ground g) task.initial

abbrev pub numbered_start : TaskValue → AtomValue → Bool
numbered_start task = is_listed (initial_atoms task)

-- the goal is true in a state (Fox and Long)
abbrev pub goal_of : TaskValue → Atoms → Bool
goal_of task s = truth (fitting_names task) s task.goal []

abbrev pub numbered_goal : TaskValue → (AtomValue → Bool) → Bool
numbered_goal task s = goal_of task (by_name (number_of task) s)
