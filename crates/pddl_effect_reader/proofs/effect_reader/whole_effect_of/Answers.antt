use Rattle.pddl_items.specs.ItemTrees.{item_tree}
use Rattle.pddl_token.proofs.Options.{exact_result}
use Rattle.pddl_effect.specs.Effects.{effect_view, IsWholeEffect}
use Rattle.pddl_effect_reader.specs.Inner.EffectReading.{whole_effect_at}
use Rattle.pddl_effect_reader.proofs.EffectLaws.{whole_effect_reads}
use Rattle.pddl_effect_reader.proofs.effect_reader.whole_effect_of.Goals as goal

pub returns-clause-spelled : goal.returns-clause-spelled
returns-clause-spelled g c =
    let t = item_tree c.args.item.now in
    exact_result (λ x. IsWholeEffect x t) effect_view c.item_whole_effect.result (whole_effect_at t) (whole_effect_reads.sound t) (whole_effect_reads.complete t) c.item_whole_effect.ensures
