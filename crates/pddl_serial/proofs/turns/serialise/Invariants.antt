use Rattle.std.proofs.Common.{◌≡◌, ◌++◌, drop}
use Rattle.pddl_judge.specs.HappeningValues.{groups_of}
use Rattle.pddl_serial.specs.Orders.{in_order}
use Rattle.pddl_serial.proofs.turns.serialise.Given as goal

abbrev pub invariant-loop-happening : goal.invariant-loop-happening
invariant-loop-happening g l = l.steps.items ++ in_order l.order (groups_of (drop l.happening-index l.happenings)) ≡ in_order l.order (groups_of l.happenings)
