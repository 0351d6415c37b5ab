use Rattle.pddl_plan.specs.Plans.{plan_view}
use Rattle.pddl_linked_task.specs.LinkedTasks.{task_of_files}
use Rattle.pddl_plan_tables.specs.ActionChanges.{AreChangesOf}
use Rattle.pddl_plan_link.proofs.PlanSteps.{AreLinked, rows_of, row_step, row_link}
use Rattle.pddl_plan_link.proofs.linked_plan.link_each.Given as goal

-- the steps up to a place are linked, and the changes that are held are those of the task's actions
abbrev pub invariant-loop-place : goal.invariant-loop-place
invariant-loop-place g l =
    let task = task_of_files l.tables.task.now in
    record {
      linked : AreLinked task row_step (row_link task) (rows_of (plan_view l.plan)) l.place l.steps;
      changes : AreChangesOf task l.changes.items;
    }
