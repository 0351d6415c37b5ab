use Rattle.std.proofs.Common.{◌-◌, length, take, drop, true, false, refl, arith}
use Rattle.std.specs.List.{list_all}
use Rattle.pddl_items.specs.ItemTrees.{item_trees}
use Rattle.pddl_effect_reader.specs.Inner.IncreaseTests.{is_term_at}
use Rattle.pddl_effect_reader.proofs.IncreaseTurns.{call_tested, no_call}
use Rattle.pddl_effect_reader.proofs.increase.is_call_list.Goals as goal

pub returns-then-is_static : goal.returns-then-is_static
returns-then-is_static g c =
    call_tested c.args.items.now c.head-item.result true c.are_terms.result (omega arith) c.head-item.is (rw c.if-is_static.true at c.is_static.ensures) c.are_terms.ensures

pub returns-else-is_static : goal.returns-else-is_static
returns-else-is_static g c =
    let items = c.args.items.now in
    rw c.if-is_static.false
    (call_tested items c.head-item.result false (list_all is_term_at (item_trees (take (length items - 1) (drop 1 items)))) (omega arith) c.head-item.is
    (rw c.if-is_static.false at c.is_static.ensures) refl)

pub returns-in-empty : goal.returns-in-empty
returns-in-empty g c = no_call c.args.items.now (omega arith)
