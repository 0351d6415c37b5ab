use Rattle.std.proofs.Common.{IsTrue, subst, sym}
use Rattle.std.specs.Prelude.{◌↔◌}
use Rattle.pddl_items.specs.ItemTrees.{item_tree}
use Rattle.pddl_effect.specs.Effects.{IsTotalCost}
use Rattle.pddl_effect_reader.proofs.IncreaseTestLaws.{cost_tells}
use Rattle.pddl_effect_reader.proofs.increase.is_total_cost.Goals as goal

pub returns-clause-spelled : goal.returns-clause-spelled
returns-clause-spelled g c =
    let t = item_tree c.args.item.now in
    subst (λ b. IsTrue b ↔ IsTotalCost t) (sym c.is_cost.ensures) (cost_tells t)
