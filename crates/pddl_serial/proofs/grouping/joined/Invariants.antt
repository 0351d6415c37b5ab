use Rattle.std.proofs.Common.{◌≡◌, ◌++◌, drop, map}
use Rattle.std.specs.List.{concat}
use Rattle.pddl_serial.proofs.grouping.joined.Given as goal

abbrev pub invariant-loop-group : goal.invariant-loop-group
invariant-loop-group g l = l.steps.items ++ concat (map (λ g. g.items) (drop l.group-index l.groups)) ≡ concat (map (λ g. g.items) l.groups)
