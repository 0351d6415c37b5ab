use Rattle.std.proofs.Common.{◌<◌, length, ap, subst, arith}
use Rattle.std.proofs.lemmas.List.{drop_all}
use Rattle.pddl_items.specs.Items.{item_view, items_view}
use Rattle.pddl_plan.specs.Building.{AddsWord}
use Rattle.pddl_step_reader.specs.Inner.PlanReading.{name_at, names_at}
use Rattle.pddl_plan.proofs.GotNames.{got_name}
use Rattle.pddl_step_reader.proofs.PlanSteps.{no_names_added, name_added, not_added, all_names_added}
use Rattle.pddl_step_reader.proofs.plan_items.add_names.Goals as goal

pub loop-item-init : goal.loop-item-init
loop-item-init g c = no_names_added (items_view c.args.items.now) c.args.plan.now

pub returns-then-not-branch : goal.returns-then-not-branch
returns-then-not-branch g c =
    let l = c.loop-item in
    let items = c.args.items.now in
    let lt : l.item-index < length items = omega arith in
    let adds = subst (λ item. AddsWord c.in_ok-add_name.field-0 (name_at (item_view item)) l.plan c.add_name.new.plan) c.item-item.is c.in_ok-add_name.ensures in
    not_added items l.item-index c.item-item.result c.args.plan.now l.plan c.add_name.new.plan (names_at (items_view items)) c.in_ok-add_name.field-0 lt l.invariant c.if-not-branch.true adds

pub loop-item-preserved : goal.loop-item-preserved
loop-item-preserved g c =
    let l = c.loop-item in
    let items = c.args.items.now in
    let lt : l.item-index < length items = omega arith in
    let adds = subst (λ item. AddsWord c.in_ok-add_name.field-0 (name_at (item_view item)) l.plan c.add_name.new.plan) c.item-item.is c.in_ok-add_name.ensures in
    name_added items l.item-index c.item-item.result c.args.plan.now l.plan c.add_name.new.plan (names_at (items_view items)) lt l.invariant
    (got_name c.in_ok-add_name.field-0 _ l.plan c.add_name.new.plan c.if-not-branch.false adds)

pub returns : goal.returns
returns g c =
    let l = c.loop-item in
    let items = c.args.items.now in
    all_names_added (names_at (items_view items)) _ c.args.plan.now l.plan (ap items_view (drop_all l.item-index items (omega arith))) l.invariant
