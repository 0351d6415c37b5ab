use Rattle.std.proofs.Common.{refl, sym, ap, ◌∙◌}
use Rattle.pddl_items.specs.Items.{item_view}
use Rattle.pddl_step_reader.specs.Inner.PlanReading.{moment_at, is_colon, step_at}
use Rattle.pddl_step_reader.proofs.PlanSteps.{got_step, timed_added, timed_three}
use Rattle.pddl_step_reader.proofs.plan_items.add_timed.Goals as goal

pub returns : goal.returns
returns g c =
    let items = c.args.items.now in
    let got = got_step c.in_ok-add_step.field-0 (step_at (item_view c.item-item.result)) c.args.plan.now c.add_step.new.plan c.if-not-branch.false c.in_ok-add_step.ensures in
    timed_added c.in-Some.moment got.step _ c.args.plan.now c.add_step.new.plan
    (timed_three items c.number-item.result c.colon-item.result c.item-item.result c.in-len3-up.len_at_least c.in-Some.moment got.step
    (ap (λ item. is_colon (item_view item)) (sym c.colon-item.is) ∙ sym c.is_colon.ensures ∙ c.if-not-is_colon.false)
    (ap (λ item. moment_at (item_view item)) (sym c.number-item.is) ∙ sym c.moment_at.ensures ∙ c.in-Some.is)
    (ap (λ item. step_at (item_view item)) (sym c.item-item.is) ∙ sym got.some)) (record { step = got.step; some = refl; names = got.names; moments = got.moments; steps = got.steps })
