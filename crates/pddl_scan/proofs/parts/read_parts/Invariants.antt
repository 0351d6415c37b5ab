use Rattle.std.proofs.Common.{length, ◌-◌, ◌≤◌}
use Rattle.pddl_scan.proofs.PartsRead.{ReadSince}
use Rattle.pddl_scan.proofs.parts.read_parts.Given as goal

abbrev pub invariant-loop-at : goal.invariant-loop-at
invariant-loop-at g l = record { in_range : l.at ≤ length l.text; since : ReadSince l.start l.text l.fn.words l.words l.at }

abbrev pub decreases-loop-at : goal.decreases-loop-at
decreases-loop-at g l = length l.text - l.at
