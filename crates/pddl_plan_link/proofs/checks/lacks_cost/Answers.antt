use Rattle.std.proofs.Common.{◌≡◌, Bool, subst, reverse, IfOk, arith}
use Rattle.pddl_domain.specs.Actions.{action_view}
use Rattle.pddl_linked_task.specs.LinkedTasks.{task_of_files}
use Rattle.pddl_tables.specs.Lookups.{price_in}
use Rattle.pddl_plan_tables.specs.ChangeCosts.{is_unpriced}
use Rattle.pddl_plan_tables.proofs.HeldChanges.{place_within, right_there, not_none}
use Rattle.pddl_plan_link.proofs.checks.lacks_cost.Goals as goal

pub index-requires : goal.index-requires
index-requires g c =
    let held = c.make_change.new.changes in
    let within = place_within (task_of_files c.args.tables.now.task.now) held.items c.in_ok-make_change.ensures.changes c.args.number (action_view c.args.action.now) c.requires.action in
    omega (arith, within, held.ok.0)

pub returns-in-Some-clause-answer : goal.returns-in-Some-clause-answer
returns-in-Some-clause-answer g c =
    subst (λ (b : Bool). IfOk c.some_costless.result (λ yes. yes ≡ b))
    (right_there (task_of_files c.args.tables.now.task.now) c.make_change.new.changes.items c.in_ok-make_change.ensures.changes c.args.number (action_view c.args.action.now) c.requires.action
    c.index.result.now c.in-Some.change c.index.ensures c.in-Some.is (is_unpriced (price_in c.args.tables.now.prices)) (reverse c.args.numbers.now))
    c.some_costless.ensures

pub returns-in-None-clause-answer : goal.returns-in-None-clause-answer
returns-in-None-clause-answer g c =
    absurd
    (not_none (task_of_files c.args.tables.now.task.now) c.make_change.new.changes.items c.in_ok-make_change.ensures.changes c.args.number (action_view c.args.action.now) c.requires.action
    c.index.result.now c.index.ensures c.in-None.is c.in_ok-make_change.ensures.made)
