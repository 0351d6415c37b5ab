use Rattle.std.proofs.Common.{◌≡◌, ◌++◌, drop, map}
use Rattle.pddl_serial.proofs.new_plan.add_moments.Given as goal

abbrev pub invariant-loop : goal.invariant-loop
invariant-loop g l = l.moments.items ++ map (λ k. l.moment) (drop l.index l.group) ≡ l.initial.moments.items ++ map (λ k. l.moment) l.group
