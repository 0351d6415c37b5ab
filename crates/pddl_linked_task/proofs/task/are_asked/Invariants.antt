use Rattle.std.proofs.Common.{◌≡◌, map, drop}
use Rattle.pddl_task.specs.Names.{same_names}
use Rattle.pddl_linked_task.proofs.task.are_asked.Given as goal

-- the rest of the lists decides
abbrev pub invariant-loop-i : goal.invariant-loop-i
invariant-loop-i g l = same_names (map (λ o. o.now) (drop l.i l.objects)) (drop l.i l.names) ≡ same_names (map (λ o. o.now) l.objects) l.names
