use Rattle.std.proofs.Common.{◌≡◌, get_or, drop, map}
use Rattle.std.specs.List.{list_all}
use Rattle.pddl_serial.specs.Inner.Places.{is_at_one}
use Rattle.pddl_serial.proofs.grouping.all_at_one.Given as goal

-- what is left passes where the whole does
abbrev pub invariant-loop-group : goal.invariant-loop-group
invariant-loop-group g l = list_all (is_at_one (λ k. get_or l.places k 0)) (map (λ g. g.items) (drop l.group-index l.groups)) ≡ list_all (is_at_one (λ k. get_or l.places k 0)) (map (λ g. g.items) l.groups)
