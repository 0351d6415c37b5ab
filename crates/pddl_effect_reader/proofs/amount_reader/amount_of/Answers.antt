use Rattle.pddl_items.specs.ItemTrees.{item_tree}
use Rattle.pddl_token.proofs.Options.{exact_result}
use Rattle.pddl_effect.specs.Effects.{amount_view, IsAmount}
use Rattle.pddl_effect_reader.specs.Inner.EffectReading.{amount_at}
use Rattle.pddl_effect_reader.proofs.AmountLaws.{amount_reads}
use Rattle.pddl_effect_reader.proofs.amount_reader.amount_of.Goals as goal

pub returns-clause-spelled : goal.returns-clause-spelled
returns-clause-spelled g c =
    let t = item_tree c.args.item.now in
    exact_result (λ x. IsAmount x t) amount_view c.item_amount.result (amount_at t) (amount_reads.sound t) (amount_reads.complete t) c.item_amount.ensures
