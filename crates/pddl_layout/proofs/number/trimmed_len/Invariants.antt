use Rattle.std.proofs.Common.{◌≡◌, ◌≤◌, length, take}
use Rattle.pddl_token.specs.NumberText.{trimmed}
use Rattle.pddl_layout.proofs.number.trimmed_len.Given as goal

-- zeros alone stand behind the place
abbrev pub invariant-loop-len : goal.invariant-loop-len
invariant-loop-len l = record { in_range : l.len ≤ length l.digits; trimmed_is : trimmed l.digits ≡ trimmed (take l.len l.digits) }

abbrev pub decreases-loop-len : goal.decreases-loop-len
decreases-loop-len l = l.len
