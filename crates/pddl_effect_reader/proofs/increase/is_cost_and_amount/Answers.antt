use Rattle.std.proofs.Common.{true, false, refl, arith}
use Rattle.pddl_items.specs.ItemTrees.{item_tree}
use Rattle.pddl_effect_reader.specs.Inner.IncreaseTests.{is_amount_at}
use Rattle.pddl_effect_reader.proofs.IncreaseTurns.{two_tested, too_few, too_many}
use Rattle.pddl_effect_reader.proofs.increase.is_cost_and_amount.Goals as goal

pub returns-then-is_cost : goal.returns-then-is_cost
returns-then-is_cost g c =
    two_tested c.args.items.now c.cost-item.result c.amount-item.result true c.is_amount.result c.in-len2.len_at_least c.in-len2.len_below c.cost-item.is c.amount-item.is
    (rw c.if-is_cost.true at c.is_cost.ensures) c.is_amount.ensures

pub returns-else-is_cost : goal.returns-else-is_cost
returns-else-is_cost g c =
    let amount = c.amount-item.result in
    rw c.if-is_cost.false
    (two_tested c.args.items.now c.cost-item.result amount false (is_amount_at (item_tree amount)) c.in-len2.len_at_least c.in-len2.len_below c.cost-item.is c.amount-item.is
    (rw c.if-is_cost.false at c.is_cost.ensures) refl)

pub returns-in_default : goal.returns-in_default
returns-in_default g c = too_few c.args.items.now (omega arith)

pub returns-in_default-2 : goal.returns-in_default-2
returns-in_default-2 g c = too_many c.args.items.now (omega arith)
