use Rattle.std.proofs.Common.{◌≡◌, ◌++◌, map}
use Rattle.std.specs.Slice.Iter.{chunks_rest, chunks_size}
use Rattle.pddl_serial.specs.Cuts.{cut}
use Rattle.pddl_serial.proofs.cutting.add_cut.Given as goal

-- what is left is cut as the whole
abbrev pub invariant-loop-group : goal.invariant-loop-group
invariant-loop-group g l =
    (goal.iterator-loop-group g).can_next l.group-iterator
    × (goal.iterator-loop-group g).is_finite l.group-iterator
    × (chunks_size l.group-iterator ≡ l.size)
    × (map (λ g. g.items) l.groups.items ++ cut l.size (chunks_rest l.group-iterator) ≡ map (λ g. g.items) l.initial.groups.items ++ cut l.size l.steps)
