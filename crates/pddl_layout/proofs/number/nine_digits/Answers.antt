use Rattle.std.proofs.Common.{arith}
use Rattle.std.proofs.lemmas.List.{length-set}
use Rattle.pddl_layout.proofs.Digits.{digit_on, all_digits}
use Rattle.pddl_layout.proofs.number.nine_digits.Goals as goal

pub loop-place-preserved : goal.loop-place-preserved
loop-place-preserved c = let l = c.loop-place in record {
  in_range = omega (arith, l.invariant.in_range);
  nine = simp length-set l.invariant.nine;
  written = digit_on _ l.place l.rest l.digits (omega arith) (omega (arith, l.invariant.in_range, l.invariant.nine)) l.invariant.written;
}

pub returns : goal.returns
returns c = let l = c.loop-place in all_digits _ l.place l.rest l.digits (omega arith) l.invariant.written
