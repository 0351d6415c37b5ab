use Rattle.std.proofs.Common.{sym, ap, ◌∙◌}
use Rattle.pddl_items.specs.Items.{item_view, span_of}
use Rattle.pddl_step_reader.proofs.PlanSteps.{span_over_three}
use Rattle.pddl_step_reader.proofs.plan_items.timed_span.Goals as goal

pub returns-in-len3-up : goal.returns-in-len3-up
returns-in-len3-up g c =
    let first = c.span_of.ensures ∙ ap (λ item. span_of (item_view item)) c.number-item.is in
    let last = c.span_of-in-len3-up.ensures ∙ ap (λ item. span_of (item_view item)) c.item-item.is in
    (λ i. record { start = (first i).start; end = (last i).end }) ∙ sym (span_over_three c.args.items.now c.number-item.result c.item-item.result c.in-len3-up.len_at_least)
