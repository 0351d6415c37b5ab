use Rattle.std.proofs.Common.{◌≡◌, ◌++◌, drop, map}
use Rattle.pddl_judge.specs.HappeningValues.{groups_of}
use Rattle.pddl_serial.specs.Cuts.{cut_in_order}
use Rattle.pddl_serial.proofs.cutting.groups_of_at_most.Given as goal

abbrev pub invariant-loop-happening : goal.invariant-loop-happening
invariant-loop-happening g l = map (λ g. g.items) l.groups.items ++ cut_in_order l.size l.order (groups_of (drop l.happening-index l.happenings)) ≡ cut_in_order l.size l.order (groups_of l.happenings)
