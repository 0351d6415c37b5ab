-- What the actions of a plan's steps are looked up in.
use Rattle.std.specs.Prelude.{◌≡◌, ℕ, List, map}
use Rattle.std.specs.Borrow.{Bor}
use Rattle.pddl_domain.specs.Actions.{ActionValue, action_view}
use Rattle.pddl_task.specs.Names.{Name}
use Rattle.pddl_task.specs.GroundSize.{capped, action_size}
use Rattle.pddl_task.specs.Tasks.{TaskValue, task_count}
use Rattle.pddl_plan_tables.specs.declared.action_table.SizedAction.{SizedAction}

-- an action, the name that it is found by, and the ground size of its steps, or one number for all beyond the largest
pub record NamedAction : Type 0 where
  pub name : Name
  pub action : ActionValue
  pub size : ℕ

abbrev pub named_action : (List Name → ℕ) → ActionValue → NamedAction
named_action count a = record { name = a.name; action = a; size = capped (action_size count a) }

-- one that is held
abbrev pub named_in : {A : _} → Bor (List ℕ) × SizedAction A → NamedAction
named_in e = record { name = e.0.now; action = action_view e.1.action.now; size = e.1.size }

-- a table holds a task's actions
abbrev pub AreActionsOf : {A : _} → TaskValue → List (Bor (List ℕ) × SizedAction A) → Type 0
AreActionsOf task es = map named_in es ≡ map (named_action (task_count task)) task.actions
