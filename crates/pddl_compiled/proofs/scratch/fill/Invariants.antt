use Rattle.std.proofs.Common.{◌≡◌, map, take}
use Rattle.pddl_compiled.specs.Views.{frame_view, place_view}
use Rattle.pddl_compiled.specs.CompiledMeaning.{object_in}
use Rattle.pddl_compiled.proofs.scratch.fill.Given as goal

abbrev pub invariant-loop-place : goal.invariant-loop-place
invariant-loop-place g l = record {
  head : l.atom-inside.predicate ≡ l.predicate;
  args : l.atom-inside.args.items ≡ map (object_in (frame_view l.frame)) (map place_view (take l.place-index l.places));
}
