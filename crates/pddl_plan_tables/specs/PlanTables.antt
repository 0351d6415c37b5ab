-- Tables that a plan's steps are looked up in hold what linked files declare (own).
use Rattle.std.specs.Prelude.{◌≡◌}
use Rattle.pddl_task.specs.Linked.{IsLinked}
use Rattle.pddl_state.specs.Atoms.{AtomValue}
use Rattle.pddl_linked_task.specs.LinkedTasks.{task_of_files}
use Rattle.pddl_tables.specs.Lookups.{price_in}
use Rattle.pddl_tables.specs.Prices.{price_at}
use Rattle.pddl_plan_tables.specs.StepTables.{AreActionsOf}
use Rattle.pddl_plan_tables.specs.declared.tables.PlanTables.{PlanTables}

pub record ArePlanTables {A B C : Type 0} (tables : PlanTables A B C) : Type 0 where
  pub linked : IsLinked tables.task.now.domain tables.task.now.problem
  pub actions : AreActionsOf (task_of_files tables.task.now) tables.actions.entries
  pub prices : (call : AtomValue) → price_in tables.prices call ≡ price_at (task_of_files tables.task.now) call
