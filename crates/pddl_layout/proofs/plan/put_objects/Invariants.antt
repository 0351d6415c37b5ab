use Rattle.std.proofs.Common.{◌≡◌, take}
use Rattle.std.specs.List.{flat_map}
use Rattle.std.specs.Io.KnownBytes.{Appends}
use Rattle.pddl_layout.specs.PlanLayout.{spaced_name}
use Rattle.pddl_layout.proofs.plan.put_objects.Given as goal

-- the names so far are written
abbrev pub invariant-loop-number : goal.invariant-loop-number
invariant-loop-number g l =
    Appends (g.W.Sink.contents l.initial.out) (g.W.Sink.contents l.out) (flat_map spaced_name (take l.number l.step.objects)) × (g.W.Sink.failures l.out ≡ g.W.Sink.failures l.initial.out)
