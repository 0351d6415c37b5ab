use Rattle.std.proofs.Common.{◌≡◌, ◌+◌, ◌++◌, drop, map}
use Rattle.pddl_happenings.specs.Splits.{split_moments}
use Rattle.pddl_serial.proofs.new_plan.moments_of_groups.Given as goal

abbrev pub invariant-loop-i : goal.invariant-loop-i
invariant-loop-i g l = l.moments.items ++ split_moments (l.i + 1) (map (λ g. g.items) (drop l.i l.groups)) ≡ split_moments 1 (map (λ g. g.items) l.groups)
