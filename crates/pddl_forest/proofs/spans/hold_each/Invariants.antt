use Rattle.std.proofs.Common.{◌≡◌, ◌≤◌, true, take, length}
use Rattle.pddl_forest.specs.Spans.{hold_all}
use Rattle.pddl_forest.proofs.spans.hold_each.Given as goal

abbrev pub invariant-loop-span : goal.invariant-loop-span
invariant-loop-span l = record {
  held : hold_all l.outer (take l.span-index l.inner) ≡ true;
  within : l.place ≤ length l.outer;
}
