use Rattle.std.proofs.Common.{List, map, drop}
use Rattle.pddl_formula.specs.TypedLists.{TypedValue, typed_view}
use Rattle.pddl_faults.proofs.SeenItems.{seen_at}
use Rattle.pddl_types.specs.Told.{ToldValue, AreAt, AreDistinct}
use Rattle.pddl_types.specs.Objects.{AreSeen, off_types}
use Rattle.pddl_types.proofs.FirstFaults.{IsFirst}
use Rattle.pddl_types.proofs.listed.Listed.put_all.Given as goal

-- the table is that of those so far, and the first that is at odds is found
abbrev pub invariant-loop-place : goal.invariant-loop-place
invariant-loop-place g l = (told : ToldValue) (seen : List TypedValue) → AreDistinct told → AreAt told (map typed_view l.objects.items) l.numbers → AreSeen told seen l.fn.self
    → AreSeen told (seen_at typed_view seen l.objects.items l.place) l.self
    × IsFirst (off_types (seen_at typed_view seen l.objects.items l.place) (map typed_view (drop l.place l.objects.items))) (off_types seen (map typed_view l.objects.items)) l.found
