use Rattle.std.proofs.Common.{◌≡◌, ◌++◌, false, map, drop}
use Rattle.pddl_formula.specs.TypedLists.{typed_view}
use Rattle.pddl_compiled.specs.Binders.{IsLast}
use Rattle.pddl_compiled.specs.Compiler.{binder_of}
use Rattle.pddl_compiled.specs.Scopes.{slot_view, range_items}
use Rattle.pddl_compiled.proofs.binder.add_all.Given as goal

-- what is found, and what is left
abbrev pub invariant-loop-place : goal.invariant-loop-place
invariant-loop-place g l =
    let range = (g.L.Lookups.tables l.lookups).range in
    let all = map typed_view l.variables.items in
    let whole = binder_of range all in
    let rest = binder_of range (drop l.place all) in
    record {
      slots : map slot_view l.binder.slots.items ++ rest.slots ≡ map slot_view l.fn.binder.slots.items ++ whole.slots;
      ranges : map range_items l.binder.ranges.items ++ rest.ranges ≡ map range_items l.fn.binder.ranges.items ++ whole.ranges;
      closed : rest.closed ≡ whole.closed;
      on : l.binder.closed ≡ false;
      last : IsLast range all l.place l.last;
    }
