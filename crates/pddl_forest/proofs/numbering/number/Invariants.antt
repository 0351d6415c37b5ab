use Rattle.std.proofs.Common.{◌≡◌, length, take, sum}
use Rattle.pddl_forest.specs.Inner.{AreCounted, ArePeeling}
use Rattle.pddl_forest.proofs.numbering.number.Given as goal

abbrev pub invariant-loop-parent : goal.invariant-loop-parent
invariant-loop-parent l = record {
  counted : AreCounted l.left (take l.parent-index l.parents) (length l.parents);
  many : sum l.left ≡ l.parent-index;
}

abbrev pub invariant-loop-place : goal.invariant-loop-place
invariant-loop-place l = ArePeeling l.parents l.left l.order l.peeled l.spans l.place
