use Rattle.std.proofs.Common.{◌≡◌, ℕ, List, take}
use Rattle.std.specs.List.{flat_map}
use Rattle.std.specs.Io.KnownBytes.{Appends}
use Rattle.pddl_plan.specs.Plans.{plan_view}
use Rattle.pddl_layout.specs.Inner.PlanLines.{lines_of}
use Rattle.pddl_layout.proofs.plan.put_plan.Given as goal

-- the lines so far are written
abbrev pub invariant-loop-number : goal.invariant-loop-number
invariant-loop-number g l =
    Appends (g.W.Sink.contents l.initial.out) (g.W.Sink.contents l.out) (flat_map (λ (line : List ℕ). line) (take l.number (lines_of (plan_view l.plan)))) × (g.W.Sink.failures l.out ≡ g.W.Sink.failures l.initial.out)
