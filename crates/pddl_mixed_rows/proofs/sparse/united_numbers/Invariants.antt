use Rattle.std.proofs.Common.{◌+◌, ◌-◌, length}
use Rattle.pddl_mixed_rows.proofs.MergedNumbers.{AreMerged}
use Rattle.pddl_mixed_rows.proofs.sparse.united_numbers.Given as goal

-- the numbers before both places are merged
abbrev pub invariant-loop-at : goal.invariant-loop-at
invariant-loop-at g l = AreMerged l.a l.b l.all.items l.at l.other

abbrev pub decreases-loop-at : goal.decreases-loop-at
decreases-loop-at g l = (length l.a - l.at) + (length l.b - l.other)
