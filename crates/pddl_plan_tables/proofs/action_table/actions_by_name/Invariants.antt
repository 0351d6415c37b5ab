use Rattle.std.proofs.Common.{drop, map}
use Rattle.pddl_domain.specs.Actions.{action_view}
use Rattle.pddl_task.specs.Tasks.{task_count}
use Rattle.pddl_linked_task.specs.LinkedTasks.{task_of_files}
use Rattle.pddl_plan_tables.proofs.HeldNames.{AreHeld}
use Rattle.pddl_plan_tables.specs.StepTables.{named_action, named_in}
use Rattle.pddl_plan_tables.proofs.NamedActions.{name_in}
use Rattle.pddl_plan_tables.proofs.action_table.actions_by_name.Given as goal

-- what is held and what is left are all of them, each with a name of its own
abbrev pub invariant-loop-action : goal.invariant-loop-action
invariant-loop-action g l =
    let named = named_action (task_count (task_of_files l.task)) in
    AreHeld named_in name_in (map named (map action_view l.actions)) l.table.entries (map named (map action_view (drop l.action-index l.actions)))
