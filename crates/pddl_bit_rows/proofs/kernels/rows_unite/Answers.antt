use Rattle.std.proofs.Common.{arith}
use Rattle.pddl_bit_rows.proofs.LaneWords.{united_from}
use Rattle.pddl_bit_rows.proofs.kernels.rows_unite.Goals as goal

pub returns : goal.returns
returns c = λ k. united_from c.args.row.now c.loop-at.row c.args.more.now c.loop-at.at (omega arith) c.loop-at.invariant.done c.loop-at.invariant.rest k
