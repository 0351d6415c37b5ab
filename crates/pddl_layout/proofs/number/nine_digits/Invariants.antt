use Rattle.std.proofs.Common.{◌≡◌, ◌≤◌, ◌++◌, length, drop}
use Rattle.pddl_token.specs.NumberText.{padded}
use Rattle.pddl_layout.proofs.number.nine_digits.Given as goal

-- the digits of the rest, and those that are written
abbrev pub invariant-loop-place : goal.invariant-loop-place
invariant-loop-place l = record { in_range : l.place ≤ 9; nine : length l.digits ≡ 9; written : padded 9 l.number ≡ padded l.place l.rest ++ drop l.place l.digits }

abbrev pub decreases-loop-place : goal.decreases-loop-place
decreases-loop-place l = l.place
