use Rattle.pddl_items.specs.ItemTrees.{item_tree}
use Rattle.pddl_token.proofs.Options.{exact_result}
use Rattle.pddl_effect.specs.Effects.{effect_view, IsEffect}
use Rattle.pddl_effect_reader.specs.Inner.EffectReading.{effect_at}
use Rattle.pddl_effect_reader.proofs.EffectLaws.{effect_reads}
use Rattle.pddl_effect_reader.proofs.effect_reader.effect_of.Goals as goal

pub returns-clause-spelled : goal.returns-clause-spelled
returns-clause-spelled g c =
    let t = item_tree c.args.item.now in
    exact_result (λ x. IsEffect x t) effect_view c.item_effect.result (effect_at t) (effect_reads.sound t) (effect_reads.complete t) c.item_effect.ensures
