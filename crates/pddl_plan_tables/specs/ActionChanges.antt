-- The changes of actions' effects (own).
use Rattle.std.specs.Prelude.{◌≡◌, ℕ, List, map, length, reverse, Option, Some, slice_get}
use Rattle.pddl_domain.specs.Actions.{ActionValue}
use Rattle.pddl_task.specs.Tasks.{TaskValue}
use Rattle.pddl_compiled.specs.Compiled.{ChangeValue}
use Rattle.pddl_compiled.specs.Compiler.{ScopeValue, change_of}
use Rattle.pddl_compiled.specs.Frames.{parameter_slot}
use Rattle.pddl_compiled.specs.TaskTables.{tables_of}
use Rattle.pddl_compiled.specs.Views.{change_view}
use Rattle.pddl_plan_tables.specs.ChangeCosts.{HasSameCosts}
use Rattle.pddl_compiled.specs.declared.compiled.Change.{Change}

-- an action's parameters in scope, the last one innermost
abbrev pub scope_of : ActionValue → ScopeValue
scope_of a = reverse (map parameter_slot a.parameters)

-- the change of an action's effect
abbrev pub effect_of : TaskValue → ActionValue → ChangeValue
effect_of task a = change_of (tables_of task) a.effect (scope_of a)

-- there is a place for each action, and what is held there has the costs of its effect
pub record AreChangesOf {A : Type 0} (task : TaskValue) (held : List (Option (Change A))) : Type 0 where
  pub as_many : length held ≡ length task.actions
  pub right : (n : ℕ) (a : ActionValue) (c : Change A) → slice_get task.actions n ≡ Some a → slice_get held n ≡ Some (Some c) → HasSameCosts (change_view c) (effect_of task a)

-- the change of the action of a place is held
abbrev pub HasChange : {A : _} → List (Option (Change A)) → ℕ → Type 0
HasChange {A} held n = (c : Change A) × (slice_get held n ≡ Some (Some c))
