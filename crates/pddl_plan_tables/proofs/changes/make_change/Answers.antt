use Rattle.std.proofs.Common.{arith}
use Rattle.pddl_domain.specs.Actions.{action_view}
use Rattle.pddl_linked_task.specs.LinkedTasks.{task_of_files}
use Rattle.pddl_plan_tables.proofs.HeldChanges.{put_there, place_within, change_put, change_there}
use Rattle.pddl_plan_tables.proofs.changes.make_change.Goals as goal

pub index-requires : goal.index-requires
index-requires g c =
    let within = place_within (task_of_files c.args.task.now) c.args.changes.now.items c.requires.changes c.args.number (action_view c.args.action.now) c.requires.action in
    omega (arith, within, c.args.changes.now.ok.0)

pub index_mut-requires : goal.index_mut-requires
index_mut-requires g c =
    let within = place_within (task_of_files c.args.task.now) c.args.changes.now.items c.requires.changes c.args.number (action_view c.args.action.now) c.requires.action in
    omega (arith, within, c.args.changes.now.ok.0)

pub returns-in_ok-costs_of-clause-changes : goal.returns-in_ok-costs_of-clause-changes
returns-in_ok-costs_of-clause-changes g c =
    change_put (task_of_files c.args.task.now) c.args.changes.now.items c.requires.changes c.args.number (action_view c.args.action.now) c.requires.action c.in_ok-costs_of.field-0
    c.in_ok-costs_of.ensures

pub returns-in_ok-costs_of-clause-made : goal.returns-in_ok-costs_of-clause-made
returns-in_ok-costs_of-clause-made g c = (
  c.in_ok-costs_of.field-0,
  put_there c.args.changes.now.items c.args.number c.in_ok-costs_of.field-0
      (place_within (task_of_files c.args.task.now) c.args.changes.now.items c.requires.changes c.args.number (action_view c.args.action.now) c.requires.action),
)

pub returns-else-is_none-clause-made : goal.returns-else-is_none-clause-made
returns-else-is_none-clause-made g c =
    change_there (task_of_files c.args.task.now) c.args.changes.now.items c.requires.changes c.args.number (action_view c.args.action.now) c.requires.action c.index.result.now
    c.index.ensures c.if-is_none.ensures
