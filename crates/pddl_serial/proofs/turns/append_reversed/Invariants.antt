use Rattle.std.proofs.Common.{◌≡◌, ◌++◌, map}
use Rattle.pddl_serial.proofs.turns.append_reversed.Given as goal

abbrev pub invariant-loop-number : goal.invariant-loop-number
invariant-loop-number g l = l.numbers.items ≡ l.initial.numbers.items ++ map (λ x. x.now) l.yielded
