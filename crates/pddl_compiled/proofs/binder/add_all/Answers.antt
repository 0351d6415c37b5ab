use Rattle.std.proofs.Common.{rules, ◌<◌, ap, ◌∙◌, map, length, get_or}
use Rattle.pddl_formula.specs.TypedLists.{typed_view}
use Rattle.pddl_compiled.specs.Binders.{only}
use Rattle.pddl_compiled.specs.Compiler.{binder_of}
use Rattle.pddl_compiled.specs.Scopes.{slot_view, range_items}
use Rattle.pddl_compiled.proofs.Binders.{view_at, bound_all, bound_on, next_last}
use Rattle.pddl_compiled.proofs.binder.add_all.Goals as goal

pub returns-then-binder : goal.returns-then-binder
returns-then-binder g c =
    let range = (g.L.Lookups.tables c.args.lookups.now).range in
    let xs = c.args.variables.now.items in
    let i = c.loop-place.place in
    let x = get_or c.as_slice.result.now i c.index-as_slice-place.result in
    let name = c.as_bytes-name.result.now in
    let found = c.in_ok-range.range.items in
    let slots = map slot_view c.loop-place.binder.slots.items in
    let new = map slot_view c.add.new.binder.slots.items in
    let ranges = map range_items c.loop-place.binder.ranges.items in
    let more = map range_items c.add.new.binder.ranges.items in
    let left = c.loop-place.invariant in
    let h : i < length xs = search rules in
    bound_all range (map typed_view xs) i (typed_view x) (view_at xs c.as_slice.result.now i c.index-as_slice-place.result c.as_slice.ensures.value h) name c.as_bytes-name.ensures.value found c.in_ok-range.ensures
    (map slot_view c.args.binder.now.slots.items) slots new (map range_items c.args.binder.now.ranges.items) ranges more (binder_of range (map typed_view xs)) left.slots left.ranges left.closed c.add.new.binder.closed c.if-binder.true c.in_ok-add.ensures

pub loop-place-preserved : goal.loop-place-preserved
loop-place-preserved g c =
    let range = (g.L.Lookups.tables c.args.lookups.now).range in
    let xs = c.args.variables.now.items in
    let i = c.loop-place.place in
    let x = get_or c.as_slice.result.now i c.index-as_slice-place.result in
    let name = c.as_bytes-name.result.now in
    let found = c.in_ok-range.range.items in
    let slots = map slot_view c.loop-place.binder.slots.items in
    let new = map slot_view c.add.new.binder.slots.items in
    let ranges = map range_items c.loop-place.binder.ranges.items in
    let more = map range_items c.add.new.binder.ranges.items in
    let left = c.loop-place.invariant in
    let h : i < length xs = search rules in
    let on = bound_on range (map typed_view xs) i (typed_view x) (view_at xs c.as_slice.result.now i c.index-as_slice-place.result c.as_slice.ensures.value h) name c.as_bytes-name.ensures.value found c.in_ok-range.ensures
    (map slot_view c.args.binder.now.slots.items) slots new (map range_items c.args.binder.now.ranges.items) ranges more (binder_of range (map typed_view xs)) left.slots left.ranges left.closed c.add.new.binder.closed c.if-binder.false c.in_ok-add.ensures in
    record {
      slots = on.0;
      ranges = on.1;
      closed = on.2;
      on = c.if-binder.false;
      last = next_last range (map typed_view xs) i found c.single_of-last.result c.in_ok-range.ensures (c.single_of-last.ensures ∙ ap only c.deref.ensures.value);
    }
