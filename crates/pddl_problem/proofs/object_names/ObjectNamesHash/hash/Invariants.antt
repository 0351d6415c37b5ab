use Rattle.std.proofs.Common.{◌≡◌, ◌≤◌, length, take}
use Rattle.std.specs.Prelude.{fold}
use Rattle.pddl_problem.proofs.object_names.ObjectNamesHash.hash.Given as goal

abbrev pub invariant-loop-i : goal.invariant-loop-i
invariant-loop-i g l = (l.i ≤ length l.self) × (l.state ≡ fold g.H.Hasher.write l.initial.state (take l.i l.self))
