use Rattle.std.proofs.Common.{arith}
use Rattle.pddl_layout.proofs.Digits.{trim_on, trim_stop}
use Rattle.pddl_layout.proofs.number.trimmed_len.Goals as goal

pub returns-then-digits-len-ne48-clause-value : goal.returns-then-digits-len-ne48-clause-value
returns-then-digits-len-ne48-clause-value c = let l = c.loop-len in trim_stop c.args.digits.now l.len (omega arith) l.invariant.in_range c.if-digits-len-ne48.true l.invariant.trimmed_is

pub loop-len-preserved : goal.loop-len-preserved
loop-len-preserved c = let l = c.loop-len in record {
  in_range = omega (arith, l.invariant.in_range);
  trimmed_is = trim_on c.args.digits.now l.len (omega arith) l.invariant.in_range c.if-digits-len-ne48.false l.invariant.trimmed_is;
}
