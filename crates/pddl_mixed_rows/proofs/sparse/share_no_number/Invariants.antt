use Rattle.std.proofs.Common.{◌+◌, ◌-◌, length}
use Rattle.pddl_mixed_rows.proofs.SparseNumbers.{AreSharedFrom}
use Rattle.pddl_mixed_rows.proofs.sparse.share_no_number.Given as goal

abbrev pub invariant-loop-at : goal.invariant-loop-at
invariant-loop-at l = AreSharedFrom l.a l.b l.at l.other

abbrev pub decreases-loop-at : goal.decreases-loop-at
decreases-loop-at l = (length l.a - l.at) + (length l.b - l.other)
