use Rattle.std.proofs.Common.{IsTrue, subst, sym}
use Rattle.std.specs.Prelude.{◌↔◌}
use Rattle.pddl_token.specs.TreeWords.{list}
use Rattle.pddl_items.specs.ItemTrees.{item_trees}
use Rattle.pddl_effect.specs.Effects.{AmountValue, IsIncrease}
use Rattle.pddl_effect_reader.proofs.IncreaseTestLaws.{increase_tells}
use Rattle.pddl_effect_reader.proofs.increase.is_increase.Goals as goal

pub returns-clause-spelled : goal.returns-clause-spelled
returns-clause-spelled g c =
    let ts = item_trees c.args.items.now in
    subst (λ b. IsTrue b ↔ ((a : AmountValue) × IsIncrease a (list ts))) (sym c.is_increase_list.ensures) (increase_tells ts)
