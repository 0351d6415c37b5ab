use Rattle.std.proofs.Common.{arith}
use Rattle.pddl_forest.proofs.Numbers.{top_numbered, written_fits, written, are_spans}
use Rattle.pddl_forest.proofs.numbering.number_from_top.Goals as goal

pub loop-turn-init : goal.loop-turn-init
loop-turn-init c = top_numbered c.requires.parents c.requires.order c.requires.under

pub loop-turn-preserved : goal.loop-turn-preserved
loop-turn-preserved c = written c.requires.parents c.requires.order c.requires.under c.loop-turn-test.true c.loop-turn.auto.turn c.loop-turn.invariant

pub returns : goal.returns
returns c = are_spans c.requires.parents c.requires.order c.requires.under c.loop-turn.invariant c.loop-turn-test.false

pub overflow_add-first : goal.overflow_add-first
overflow_add-first c = omega (arith, c.requires.parents.short, written_fits c.requires.parents c.requires.order c.requires.under c.loop-turn-test.true c.loop-turn.auto.turn c.loop-turn.invariant)

pub overflow_add-last : goal.overflow_add-last
overflow_add-last c = omega (arith, c.requires.parents.short, written_fits c.requires.parents c.requires.order c.requires.under c.loop-turn-test.true c.loop-turn.auto.turn c.loop-turn.invariant)
