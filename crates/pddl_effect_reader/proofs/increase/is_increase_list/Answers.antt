use Rattle.std.proofs.Common.{◌-◌, length, take, drop, true, false, refl, arith}
use Rattle.pddl_items.specs.ItemTrees.{item_trees}
use Rattle.pddl_effect_reader.specs.Inner.IncreaseTests.{is_cost_and_amount}
use Rattle.pddl_effect_reader.proofs.IncreaseTurns.{head_tested, none_tested}
use Rattle.pddl_effect_reader.proofs.increase.is_increase_list.Goals as goal

pub returns-then-is_word_item : goal.returns-then-is_word_item
returns-then-is_word_item g c =
    head_tested c.args.items.now c.head-item.result true c.is_cost_and_amount.result (omega arith) c.head-item.is (rw c.if-is_word_item.true at c.is_word_item.ensures) c.is_cost_and_amount.ensures

pub returns-else-is_word_item : goal.returns-else-is_word_item
returns-else-is_word_item g c =
    let items = c.args.items.now in
    rw c.if-is_word_item.false
    (head_tested items c.head-item.result false (is_cost_and_amount (item_trees (take (length items - 1) (drop 1 items)))) (omega arith) c.head-item.is
    (rw c.if-is_word_item.false at c.is_word_item.ensures) refl)

pub returns-in-empty : goal.returns-in-empty
returns-in-empty g c = none_tested c.args.items.now (omega arith)
