use Rattle.std.proofs.Common.{ℕ, arith, rules, take, ◌++◌, length-append}
use Rattle.pddl_device.proofs.Known.{consumes_more}
use Rattle.pddl_device.proofs.reading.read_all.Goals as goal

pub returns-then-count-limit-clause-stands : goal.returns-then-count-limit-clause-stands
returns-then-count-limit-clause-stands g c = (
  c.loop-count.text.items ++ take c.in-Ok.count c.read.new.buf,
  consumes_more _ _ _ _ _ c.loop-count.invariant.given c.in-Ok.ensures.bytes.0,
  λ _.
      (omega (arith, length-append {A = ℕ}, c.in-Ok.ensures.bound), omega (arith, length-append {A = ℕ}, c.in-Ok.ensures.bound, c.loop-count.invariant.within)),
)

pub returns-in_err-extend_from_slice-clause-stands : goal.returns-in_err-extend_from_slice-clause-stands
returns-in_err-extend_from_slice-clause-stands g c =
    (c.loop-count.text.items ++ take c.in-Ok.count c.read.new.buf, consumes_more _ _ _ _ _ c.loop-count.invariant.given c.in-Ok.ensures.bytes.0, search rules)
