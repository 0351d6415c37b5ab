-- Actions and plans by numbers alone: what is kept of them while a plan is judged (own).
use Rattle.std.specs.Prelude.{◌≡◌, ◌≤◌, ℕ, Bool, ◌||◌, List, [], map, reverse, Option, Some, slice_get, unwrap_or}
use Rattle.std.specs.Option.{option_map_or, option_flatten}
use Rattle.pddl_domain.specs.Actions.{ActionValue}
use Rattle.pddl_task.specs.Tasks.{TaskValue}
use Rattle.pddl_state.specs.Atoms.{AtomValue, atom_eq}
use Rattle.pddl_happenings.specs.Steps.{Step}
use Rattle.pddl_compiled.specs.Compiled.{ConditionValue, ChangeValue}
use Rattle.pddl_compiled.specs.CompiledMeaning.{FrameValue, is_true, some_tested, spent}
use Rattle.pddl_compiled.specs.Compiler.{ScopeValue, condition_of, change_of}
use Rattle.pddl_compiled.specs.Frames.{parameter_slot}
use Rattle.pddl_compiled.specs.TaskTables.{tables_of}
use Rattle.pddl_compiled.specs.Views.{condition_view, change_view}
use Rattle.pddl_compiled.specs.declared.compiled.Condition.{Condition}
use Rattle.pddl_evaluation.specs.Reads.{tested_by}
use Rattle.pddl_evaluation.specs.Costs.{increases_of, most_increases}
use Rattle.pddl_evaluation.specs.Fires.{added, deleted}
use Rattle.pddl_tables.specs.Prices.{price_at}
use Rattle.pddl_plan_steps.specs.PlanSteps.{idle}
use Rattle.pddl_linked_plan.specs.LinkedSteps.{LinkedStepValue, AreLinkedSteps}
use Rattle.pddl_compiled_plan.specs.declared.action.CompiledAction.{CompiledAction}

-- an action's precondition and effect by numbers
pub record ActionForm : Type 0 where
  pub precondition : ConditionValue
  pub effect : ChangeValue

-- an action's parameters in scope, the last one innermost
abbrev pub scope_of : ActionValue → ScopeValue
scope_of a = reverse (map parameter_slot a.parameters)

abbrev pub form_of : TaskValue → ActionValue → ActionForm
form_of task a = record { precondition = condition_of (tables_of task) a.precondition (scope_of a); effect = change_of (tables_of task) a.effect (scope_of a) }

-- whether an action reads an atom, with the objects of a frame
abbrev pub action_reads : ActionForm → FrameValue → AtomValue → Bool
action_reads f frame x = some_tested f.precondition (atom_eq x) frame || tested_by f.effect (atom_eq x) frame

-- What an action does with objects by numbers, where functions of objects have prices.
abbrev pub form_step : (AtomValue → ℕ) → ActionForm → List ℕ → Step AtomValue
form_step price f objects = record {
  ready = λ s. is_true s f.precondition (reverse objects);
  reads = action_reads f (reverse objects);
  adds = λ s x. added s f.effect (atom_eq x) (reverse objects);
  dels = λ s x. deleted s f.effect (atom_eq x) (reverse objects);
  cost = λ s. spent price s f.effect (reverse objects);
}

-- the form that is held
abbrev pub form_in : {A : _} → CompiledAction A → ActionForm
form_in c = record { precondition = condition_view c.precondition; effect = change_view c.effect }

-- each form that is held is that of the action of its place
abbrev pub AreForms : {A : _} → TaskValue → List (Option (CompiledAction A)) → Type 0
AreForms {A} task held = (n : ℕ) (a : ActionValue) (c : CompiledAction A) → slice_get task.actions n ≡ Some a → slice_get held n ≡ Some (Some c) → form_in c ≡ form_of task a

-- the form of the action of a number is held
abbrev pub IsHeld : {A : _} → List (Option (CompiledAction A)) → ℕ → Type 0
IsHeld {A} held n = (c : CompiledAction A) × (slice_get held n ≡ Some (Some c))

-- those of the actions of all steps are
abbrev pub AreHeld : {A : _} → List LinkedStepValue → List (Option (CompiledAction A)) → Type 0
AreHeld steps held = (k : ℕ) (s : LinkedStepValue) → slice_get steps k ≡ Some s → IsHeld held s.action

-- What is held of a linked plan with its task: the form of each action that a step has, that of the goal, and the prices.
pub record AreCompiledFrom {A : _} (task : TaskValue) (steps : List LinkedStepValue) (actions : List (Option (CompiledAction A))) (goal : Condition A) (prices : AtomValue → Option ℕ) : Type 0 where
  pub linked : AreLinkedSteps task steps
  pub forms : AreForms task actions
  pub used : AreHeld steps actions
  pub goal_is : condition_view goal ≡ condition_of (tables_of task) task.goal []
  pub prices_are : (call : AtomValue) → prices call ≡ price_at task call

-- ---- by numbers alone

-- a price that is held, or 0
abbrev pub held_price : (AtomValue → Option ℕ) → AtomValue → ℕ
held_price prices call = unwrap_or (prices call) 0

-- the action of a number that is held, if there is one
abbrev pub held_action : {A : _} → List (Option (CompiledAction A)) → ℕ → Option (CompiledAction A)
held_action actions n = option_flatten (slice_get actions n)

-- what a step does by the forms and the prices that are held; where its action is not held nothing is done
abbrev pub held_step : {A : _} → List (Option (CompiledAction A)) → (AtomValue → Option ℕ) → LinkedStepValue → Step AtomValue
held_step actions prices s = option_map_or (λ c. form_step (held_price prices) (form_in c) s.objects) (held_action actions s.action) idle

-- so do the steps of a plan; past the last nothing is done
abbrev pub held_steps : {A : _} → List (Option (CompiledAction A)) → (AtomValue → Option ℕ) → List LinkedStepValue → ℕ → Step AtomValue
held_steps actions prices steps k = option_map_or (held_step actions prices) (slice_get steps k) idle

-- the goal that is held is true in a state
abbrev pub held_goal : {A : _} → Condition A → (AtomValue → Bool) → Bool
held_goal goal s = is_true s (condition_view goal) []

-- What is held for the steps of a plan: an action for each, with increases as few as a step may have.
pub record AreHeldFor {A : _} (steps : List LinkedStepValue) (actions : List (Option (CompiledAction A))) : Type 0 where
  pub used : AreHeld steps actions
  pub few : (k : ℕ) (s : LinkedStepValue) (c : CompiledAction A) → slice_get steps k ≡ Some s → slice_get actions s.action ≡ Some (Some c) → increases_of (change_view c.effect) ≤ most_increases
