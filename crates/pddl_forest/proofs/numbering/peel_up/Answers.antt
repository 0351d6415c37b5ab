use Rattle.std.proofs.Common.{arith}
use Rattle.pddl_forest.proofs.Peels.{some, one_less, put_fits, peeled_more, started, stopped}
use Rattle.pddl_forest.proofs.numbering.peel_up.Goals as goal

pub overflow_add-first : goal.overflow_add-first
overflow_add-first c = omega (arith, c.requires.parents.short, put_fits c.requires.parents c.loop-left.invariant c.loop-left-test.true c.if-spans-next-eq0.true)

pub overflow_add-spans : goal.overflow_add-spans
overflow_add-spans c = omega (arith, c.requires.parents.short, put_fits c.requires.parents c.loop-left.invariant c.loop-left-test.true c.if-spans-next-eq0.true)

pub overflow_sub-left : goal.overflow_sub-left
overflow_sub-left c = some c.requires.parents c.loop-left.invariant c.loop-left-test.true c.if-spans-next-eq0.true

pub loop-left-smaller : goal.loop-left-smaller
loop-left-smaller c = omega (arith, one_less c.requires.parents c.loop-left.invariant c.loop-left-test.true c.if-spans-next-eq0.true)

pub loop-left-preserved : goal.loop-left-preserved
loop-left-preserved c = peeled_more c.requires.parents c.loop-left.invariant c.loop-left-test.true c.if-spans-next-eq0.true

pub loop-left-init : goal.loop-left-init
loop-left-init c = started c.requires.parents c.requires.peeled c.requires.low

pub returns-after-loop-left : goal.returns-after-loop-left
returns-after-loop-left c = stopped c.requires.parents c.loop-left.invariant (λ none new. c.loop-left-test.false none)

pub returns-else-spans-next-eq0 : goal.returns-else-spans-next-eq0
returns-else-spans-next-eq0 c = stopped c.requires.parents c.loop-left.invariant (λ none new. c.if-spans-next-eq0.false new)

pub bounds-order-turn : goal.bounds-order-turn
bounds-order-turn c =
    omega (arith, one_less c.requires.parents c.loop-left.invariant c.loop-left-test.true c.if-spans-next-eq0.true, c.loop-left.invariant.rest, c.loop-left.invariant.long)
