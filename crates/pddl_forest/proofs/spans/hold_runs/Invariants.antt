use Rattle.pddl_forest.proofs.ApartSpans.{AreRuns}
use Rattle.pddl_forest.proofs.spans.hold_runs.Given as goal

abbrev pub invariant-loop-span : goal.invariant-loop-span
invariant-loop-span l = AreRuns l.outer l.inner l.span-index l.next
