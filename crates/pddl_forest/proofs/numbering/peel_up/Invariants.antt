use Rattle.std.proofs.Common.{sum}
use Rattle.pddl_forest.proofs.Peels.{ArePeeledTo}
use Rattle.pddl_forest.proofs.numbering.peel_up.Given as goal

abbrev pub invariant-loop-left : goal.invariant-loop-left
invariant-loop-left l = ArePeeledTo l.parents l.left l.order l.turn l.spans l.place l.next

abbrev pub decreases-loop-left : goal.decreases-loop-left
decreases-loop-left l = sum l.left
