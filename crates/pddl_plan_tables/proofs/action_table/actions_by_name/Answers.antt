use Rattle.std.proofs.Common.{map, drop, refl, ap}
use Rattle.std.proofs.lemmas.List.{drop_all}
use Rattle.pddl_domain.specs.Actions.{action_view}
use Rattle.pddl_task.specs.Tasks.{task_count}
use Rattle.pddl_linked_task.specs.LinkedTasks.{task_of_files}
use Rattle.pddl_faults.proofs.ListTurns.{views_drop}
use Rattle.pddl_plan_tables.proofs.HeldNames.{held_more, held_all}
use Rattle.pddl_plan_tables.specs.StepTables.{named_action, named_in}
use Rattle.pddl_plan_tables.proofs.NamedActions.{name_in, is_named, held_start, entry_is}
use Rattle.pddl_plan_tables.proofs.action_table.actions_by_name.Goals as goal

pub loop-action-init : goal.loop-action-init
loop-action-init g c =
    held_start (task_count (task_of_files c.args.task.now)) c.in_ok-table.table.entries (map action_view c.args.actions.now) c.in_ok-table.ensures.empty c.requires

pub loop-action-preserved : goal.loop-action-preserved
loop-action-preserved g c =
    let named = named_action (task_count (task_of_files c.args.task.now)) in
    let xs = c.args.actions.now in
    let i = c.loop-action.action-index in
    let x = c.action-item.result in
    let front = ap (map named) (views_drop action_view xs i x c.loop-action-test.true c.action-item.is) in
    let entry = entry_is (task_count (task_of_files c.args.task.now)) c.as_bytes.result c.sized_action.result x c.as_bytes.ensures.value c.sized_action.ensures.action c.sized_action.ensures.size in
    held_more named_in name_in is_named _ c.loop-action.table c.insert.new.self _ _ (named (action_view x)) c.as_bytes.result c.sized_action.result front entry refl c.loop-action.invariant c.in_ok-insert.ensures.entries

pub returns : goal.returns
returns g c =
    let named = named_action (task_count (task_of_files c.args.task.now)) in
    let xs = c.args.actions.now in
    let i = c.loop-action.action-index in
    held_all named_in name_in (map named (map action_view xs)) c.loop-action.table.entries (map named (map action_view (drop i xs)))
    (ap (λ ys. map named (map action_view ys)) (drop_all i xs c.loop-action-test.false)) c.loop-action.invariant
