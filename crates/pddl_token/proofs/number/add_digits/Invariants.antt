use Rattle.std.proofs.Common.{◌≡◌, ◌≤◌, take}
use Rattle.std.specs.List.{fold}
use Rattle.pddl_token.specs.Number.{add_digit}
use Rattle.pddl_token.proofs.number.add_digits.Given as goal

abbrev pub invariant-loop-digit : goal.invariant-loop-digit
invariant-loop-digit l = record { value : l.longer ≡ fold add_digit l.value (take l.digit-index l.digits); in_range : l.longer ≤ 9999999999999999999 }
