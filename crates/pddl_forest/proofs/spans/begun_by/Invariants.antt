use Rattle.std.proofs.Common.{length, ◌-◌, ◌<◌, ◌≤◌, ℕ}
use Rattle.pddl_forest.specs.Spans.{at}
use Rattle.pddl_forest.proofs.spans.begun_by.Given as goal

-- what stands in front of the start begins at or before the number
abbrev pub invariant-loop-end : goal.invariant-loop-end
invariant-loop-end l = record {
  ordered : l.start ≤ l.end;
  within : l.end ≤ length l.spans;
  before : (i : ℕ) → i < l.start → (at l.spans i).first ≤ l.number;
}

abbrev pub decreases-loop-end : goal.decreases-loop-end
decreases-loop-end l = length l.spans - l.end
