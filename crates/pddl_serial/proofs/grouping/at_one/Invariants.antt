use Rattle.std.proofs.Common.{◌≡◌, get_or, drop}
use Rattle.std.specs.Prelude.{◌==◌}
use Rattle.std.specs.List.{list_all}
use Rattle.pddl_serial.proofs.grouping.at_one.Given as goal

-- what is left is at the place where the whole is
abbrev pub invariant-loop-step : goal.invariant-loop-step
invariant-loop-step l = list_all (λ j. get_or l.places j 0 == l.place) (drop l.step-index l.group) ≡ list_all (λ j. get_or l.places j 0 == l.place) l.group
