use Rattle.std.proofs.Common.{refl, arith}
use Rattle.pddl_build.proofs.Parts.{found_reads}
use Rattle.pddl_items.specs.ItemTrees.{item_tree}
use Rattle.pddl_effect.specs.declared.effect.Effect.TheVariants as cases
use Rattle.pddl_effect.specs.Effects.{increase, amount_view, effect_view}
use Rattle.pddl_effect_reader.specs.Inner.EffectReading.{amount_at}
use Rattle.pddl_effect.proofs.Views.{view_increase}
use Rattle.pddl_effect_reader.proofs.EffectTurns.{increase_is}
use Rattle.pddl_effect_reader.proofs.effect_reader.increase_of.Goals as goal

pub returns-then-not-is_total_cost : goal.returns-then-not-is_total_cost
returns-then-not-is_total_cost g c =
    let cost = c.cost-item.result in
    let amount = c.amount-item.result in
    rw (increase_is c.args.items.now cost amount _ (omega arith) (omega arith) c.cost-item.is c.amount-item.is c.is_total_cost.ensures.read, c.if-not-is_total_cost.true) refl

pub returns : goal.returns
returns g c =
    let cost = c.cost-item.result in
    let amount = c.amount-item.result in
    rw (increase_is c.args.items.now cost amount _ (omega arith) (omega arith) c.cost-item.is c.amount-item.is c.is_total_cost.ensures.read, c.if-not-is_total_cost.false)
    (found_reads cases.Increase effect_view amount_view increase view_increase c.amount_of.result c.increase.result (amount_at (item_tree amount)) c.increase.ensures c.amount_of.ensures.read)
