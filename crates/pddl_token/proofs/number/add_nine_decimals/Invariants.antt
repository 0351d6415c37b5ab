use Rattle.std.proofs.Common.{◌≡◌, ◌≤◌, take}
use Rattle.std.specs.List.{fold}
use Rattle.pddl_token.specs.Number.{add_digit, nine_of}
use Rattle.pddl_token.proofs.number.add_nine_decimals.Given as goal

abbrev pub invariant-loop-place : goal.invariant-loop-place
invariant-loop-place l = record { value : l.longer ≡ fold add_digit l.value (take l.place (nine_of l.decimals)); in_range : l.longer ≤ 9999999999999999999 }
