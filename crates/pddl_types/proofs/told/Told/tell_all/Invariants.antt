use Rattle.std.proofs.Common.{◌≡◌, ℕ, suc, Some, map, drop, take, slice_get}
use Rattle.pddl_formula.specs.TypedLists.{TypedValue, typed_view}
use Rattle.pddl_types.specs.Told.{IsAt, AreAt, AreTold, AreKept, unknown_among}
use Rattle.pddl_types.proofs.told.Told.tell_all.Given as goal

-- what was told is kept, the types of the items so far are told, that of the last at this number, and what is unknown is unknown in the rest
abbrev pub invariant-loop-place : goal.invariant-loop-place
invariant-loop-place g l = record {
  types : AreTold l.types l.self;
  kept : AreKept l.fn.self l.self;
  numbers : AreAt l.self (take l.place (map typed_view l.list.items)) l.numbers.items;
  last : (j : ℕ) (x : TypedValue) → suc j ≡ l.place → slice_get (map typed_view l.list.items) j ≡ Some x → IsAt l.self x.of l.number;
  left : unknown_among l.types.declared (drop l.place (map typed_view l.list.items)) ≡ unknown_among l.types.declared (map typed_view l.list.items);
}
