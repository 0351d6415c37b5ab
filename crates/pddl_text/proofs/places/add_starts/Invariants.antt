use Rattle.std.proofs.Common.{◌≡◌, ◌+◌, ◌++◌, take}
use Rattle.pddl_text.specs.LineStarts.{starts_from}
use Rattle.pddl_text.proofs.places.add_starts.Given as goal

abbrev pub invariant-loop-byte : goal.invariant-loop-byte
invariant-loop-byte g l = record {
  at_is : l.at ≡ l.start + l.byte-index;
  items_are : l.starts.items ≡ l.fn.starts.items ++ starts_from l.start (take l.byte-index l.piece);
}
