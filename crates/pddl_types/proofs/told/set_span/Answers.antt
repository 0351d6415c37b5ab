use Rattle.std.proofs.Common.{arith}
use Rattle.std.proofs.lemmas.Bool.Decides.{nat_tests}
use Rattle.pddl_types.proofs.told.set_span.Goals as goal

pub loop-number-init : goal.loop-number-init
loop-number-init g c = record { from = omega arith; bits = λ i. grind (arith, nat_tests) }

pub loop-number-preserved : goal.loop-number-preserved
loop-number-preserved g c = record { from = omega arith; bits = λ i. grind (arith, nat_tests, c.loop-number.invariant.bits i, c.in_ok-set_bit.ensures.ok i) }

pub returns : goal.returns
returns g c = λ i. grind (arith, nat_tests, c.loop-number.invariant.bits i)

pub returns-in_ok-set_bit : goal.returns-in_ok-set_bit
returns-in_ok-set_bit g c = λ i. grind (arith, nat_tests, c.loop-number.invariant.bits i, c.in_ok-set_bit.ensures.ok i)
