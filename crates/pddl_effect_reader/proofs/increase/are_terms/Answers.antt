use Rattle.std.proofs.Common.{arith}
use Rattle.pddl_effect_reader.specs.Inner.IncreaseTests.{is_term_at}
use Rattle.pddl_effect_reader.proofs.IncreaseTurns.{test_on, test_stop, test_end}
use Rattle.pddl_effect_reader.proofs.increase.are_terms.Goals as goal

pub returns-then-not-is_term : goal.returns-then-not-is_term
returns-then-not-is_term g c =
    let l = c.loop-item in
    test_stop is_term_at c.args.items.now l.item-index _ l.invariant c.item-item.result (omega arith) c.item-item.is (rw c.if-not-is_term.true at c.is_term.ensures)

pub loop-item-preserved : goal.loop-item-preserved
loop-item-preserved g c =
    let l = c.loop-item in
    test_on is_term_at c.args.items.now l.item-index _ l.invariant c.item-item.result (omega arith) c.item-item.is (rw c.if-not-is_term.false at c.is_term.ensures)

pub returns : goal.returns
returns g c = test_end is_term_at c.args.items.now c.loop-item.item-index _ c.loop-item.invariant (omega arith)
