use Rattle.std.proofs.Common.{sym, ap, ◌∙◌}
use Rattle.pddl_items.specs.Items.{item_view}
use Rattle.pddl_step_reader.specs.Inner.PlanReading.{no_step}
use Rattle.pddl_step_reader.proofs.PlanSteps.{timed_test, no_timed_first}
use Rattle.pddl_step_reader.proofs.plan_items.plain_fault.Goals as goal

pub returns : goal.returns
returns g c =
    no_timed_first c.args.items.now c.item-item.result c.args.behind c.no_step.result c.in-len1-up.len_at_least
    (sym (timed_test c.in_ok-add_timed.field-0 _ c.args.plan.now c.add_timed.new.plan c.in_ok-add_timed.ensures) ∙ sym c.is_some.ensures ∙ c.if-is_some.false)
    (c.no_step.ensures ∙ ap (λ item. no_step c.args.behind (item_view item)) c.item-item.is)
