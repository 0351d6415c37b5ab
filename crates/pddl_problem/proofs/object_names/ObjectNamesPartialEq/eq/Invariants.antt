use Rattle.std.proofs.Common.{◌≡◌, drop, bytes_eq}
use Rattle.std.specs.Cmp.Lexicographic.{pointwise}
use Rattle.pddl_problem.proofs.object_names.ObjectNamesPartialEq.eq.Given as goal

-- the rest of the names decides
abbrev pub invariant-loop-i : goal.invariant-loop-i
invariant-loop-i g l = pointwise bytes_eq (drop l.i l.self) (drop l.i l.other) ≡ pointwise bytes_eq l.self l.other
