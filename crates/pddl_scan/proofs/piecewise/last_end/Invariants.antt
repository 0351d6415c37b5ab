use Rattle.std.proofs.Common.{length, ◌≤◌, drop}
use Rattle.std.specs.List.{AllPass}
use Rattle.pddl_token.specs.Bytes.{is_inner_byte}
use Rattle.pddl_scan.proofs.piecewise.last_end.Given as goal

abbrev pub invariant-loop-len : goal.invariant-loop-len
invariant-loop-len l = record { in_range : l.len ≤ length l.text; held : AllPass is_inner_byte (drop l.len l.text) }

abbrev pub decreases-loop-len : goal.decreases-loop-len
decreases-loop-len l = l.len
