use Rattle.std.proofs.Common.{◌≡◌, ◌<◌, true, false, [], length, map, arith, codes}
use Rattle.std.proofs.lemmas.List.{nil_from_length}
use Rattle.pddl_items.specs.ItemTrees.{item_tree}
use Rattle.pddl_items.specs.Inner.TreeReading.{is_dash}
use Rattle.pddl_formula_reader.specs.Inner.Reading.{type_name_at}
use Rattle.pddl_formula_reader.proofs.Turns.{there}
use Rattle.pddl_formula_reader.proofs.TypedTurns.{type_stops, type_adds, dash_fails, dash_done, item_stops, item_adds, end_fails, end_done, added_last}
use Rattle.pddl_domain.specs.Declarations.{type_view}
use Rattle.pddl_declaration_reader.proofs.declaration_reader.add_declared_types.Goals.{then-after_dash+in_ok-add_types+else-not-branch, else-after_dash+then-is_dash+else-len-eq0, else-after_dash+else-is_dash+in_ok-push_found+else-not-branch-2}
use Rattle.pddl_declaration_reader.proofs.declaration_reader.add_declared_types.Goals as goal

pub returns-then-not-branch : goal.returns-then-not-branch
returns-then-not-branch g c =
    let l = c.loop-item in
    type_stops type_name_at type_name_at (codes "object") c.args.items.now l.item-index c.item-item.result (omega arith) c.item-item.is (map type_view l.found.items) l.group.items _
    c.type_name_of.result (map type_view c.add_types.new.found.items) (rw c.if-after_dash.true at l.invariant) c.type_name_of.ensures (rw c.if-not-branch.true at c.in_ok-add_types.ensures.typed)

pub returns-then-len-eq0 : goal.returns-then-len-eq0
returns-then-len-eq0 g c =
    let l = c.loop-item in
    let lt : l.item-index < length c.args.items.now = omega arith in
    let dash = there (λ item. is_dash (item_tree item)) c.args.items.now l.item-index c.item-item.result c.is_dash.result true c.item-item.is c.is_dash.ensures c.if-is_dash.true in
    let empty : l.group.items ≡ [] = nil_from_length l.group.items (omega (arith, l.group.ok.0)) in
    dash_fails type_name_at type_name_at (codes "object") c.args.items.now l.item-index c.item-item.result lt _ _ _ (rw c.if-after_dash.false at l.invariant) dash empty

pub returns-then-not-branch-2 : goal.returns-then-not-branch-2
returns-then-not-branch-2 g c =
    let l = c.loop-item in
    let dash = there (λ item. is_dash (item_tree item)) c.args.items.now l.item-index c.item-item.result c.is_dash.result false c.item-item.is c.is_dash.ensures c.if-is_dash.false in
    item_stops type_name_at type_name_at (codes "object") c.args.items.now l.item-index c.item-item.result (omega arith) c.item-item.is (map type_view l.found.items) l.group.items _
    c.type_name_of-else-is_dash.result c.push_found.new.list.items (rw c.if-after_dash.false at l.invariant) dash c.type_name_of-else-is_dash.ensures (rw c.if-not-branch-2.true at c.in_ok-push_found.ensures)

pub loop-item-preserved : goal.loop-item-preserved
loop-item-preserved g c =
    let l = c.loop-item in
    let d = c.item-item.result in
    let lt : l.item-index < length c.args.items.now = omega arith in
    elim c.if-after_dash.branch [
      | then-after_dash+in_ok-add_types+else-not-branch w ↦
          rw (w.after_dash-is, w.group-is, w.found-is)
          (type_adds type_name_at type_name_at (codes "object") c.args.items.now l.item-index d lt c.item-item.is (map type_view l.found.items) l.group.items _
          w.type_name_of.result (map type_view w.add_types.new.found.items) w.add_types.new.group.items (rw w.if-after_dash.true at l.invariant) w.type_name_of.ensures
          (rw w.if-not-branch.false at w.in_ok-add_types.ensures.typed) (w.in_ok-add_types.ensures.group w.if-not-branch.false))
      | else-after_dash+then-is_dash+else-len-eq0 w ↦
          let dash = there (λ item. is_dash (item_tree item)) c.args.items.now l.item-index d w.is_dash.result true c.item-item.is w.is_dash.ensures w.if-is_dash.true in
          rw (w.after_dash-is, w.group-is, w.found-is)
          (dash_done type_name_at type_name_at (codes "object") c.args.items.now l.item-index d lt _ _ _ (rw w.if-after_dash.false at l.invariant) dash (omega (arith, l.group.ok.0)))
      | else-after_dash+else-is_dash+in_ok-push_found+else-not-branch-2 w ↦
          let dash = there (λ item. is_dash (item_tree item)) c.args.items.now l.item-index d w.is_dash.result false c.item-item.is w.is_dash.ensures w.if-is_dash.false in
          rw (w.after_dash-is, w.if-after_dash.false, w.group-is, w.found-is)
          (item_adds type_name_at type_name_at (codes "object") c.args.items.now l.item-index d lt c.item-item.is (map type_view l.found.items) l.group.items _
          w.type_name_of-else-is_dash.result w.push_found.new.list.items (rw w.if-after_dash.false at l.invariant) dash w.type_name_of-else-is_dash.ensures (rw w.if-not-branch-2.false at w.in_ok-push_found.ensures))
    ]

pub returns-then-after_dash-2 : goal.returns-then-after_dash-2
returns-then-after_dash-2 g c =
    let l = c.loop-item in
    end_fails type_name_at type_name_at (codes "object") c.args.items.now l.item-index (omega arith) _ _ _ (rw c.if-after_dash-2.true at l.invariant)

pub returns : goal.returns
returns g c =
    let l = c.loop-item in
    rw (← end_done type_name_at type_name_at (codes "object") c.args.items.now l.item-index (omega arith) _ _ _ (rw c.if-after_dash-2.false at l.invariant))
    (added_last (map type_view l.found.items) (map type_view c.add_types-2.new.found.items) l.group.items c.type_name_called.result c.add_types-2.result (codes "object") c.type_name_called.ensures c.add_types-2.ensures.typed)
