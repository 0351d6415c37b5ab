use Rattle.std.proofs.Common.{◌≡◌, ◌<◌, true, false, [], length, map, ap, arith}
use Rattle.std.proofs.lemmas.List.{nil_from_length, length-map}
use Rattle.pddl_items.specs.ItemTrees.{item_tree}
use Rattle.pddl_items.specs.Inner.TreeReading.{is_dash}
use Rattle.pddl_formula_reader.specs.Inner.Reading.{type_at}
use Rattle.pddl_formula_reader.proofs.Turns.{there}
use Rattle.pddl_formula_reader.proofs.TypedTurns.{type_stops, type_adds, dash_fails, dash_done, end_fails, end_done, added_last}
use Rattle.pddl_domain.specs.Declarations.{number, function_view}
use Rattle.pddl_declaration_reader.specs.Inner.Signatures.{signature_view}
use Rattle.pddl_declaration_reader.specs.Inner.DeclarationReading.{function_signature_at}
use Rattle.pddl_declaration_reader.proofs.DeclarationTurns.{function_stops, function_adds}
use Rattle.pddl_declaration_reader.proofs.declaration_reader.add_declared_functions.Goals.{then-after_dash+in_ok-add_functions+else-not-branch, else-after_dash+then-is_dash+else-len-eq0, else-after_dash+else-is_dash+in_ok-push_found+else-not-branch-2}
use Rattle.pddl_declaration_reader.proofs.declaration_reader.add_declared_functions.Goals as goal

pub returns-then-not-branch : goal.returns-then-not-branch
returns-then-not-branch g c =
    let l = c.loop-item in
    type_stops function_signature_at type_at number c.args.items.now l.item-index c.item-item.result (omega arith) c.item-item.is (map function_view l.found.items) (map signature_view l.group.items) _
    c.type_of.result (map function_view c.add_functions.new.found.items) (rw c.if-after_dash.true at l.invariant) c.type_of.ensures (rw c.if-not-branch.true at c.in_ok-add_functions.ensures.typed)

pub returns-then-len-eq0 : goal.returns-then-len-eq0
returns-then-len-eq0 g c =
    let l = c.loop-item in
    let lt : l.item-index < length c.args.items.now = omega arith in
    let dash = there (λ item. is_dash (item_tree item)) c.args.items.now l.item-index c.item-item.result c.is_dash.result true c.item-item.is c.is_dash.ensures c.if-is_dash.true in
    let empty : l.group.items ≡ [] = nil_from_length l.group.items (omega (arith, l.group.ok.0)) in
    dash_fails function_signature_at type_at number c.args.items.now l.item-index c.item-item.result lt _ _ _ (rw c.if-after_dash.false at l.invariant) dash (ap (map signature_view) empty)

pub returns-then-not-branch-2 : goal.returns-then-not-branch-2
returns-then-not-branch-2 g c =
    let l = c.loop-item in
    let dash = there (λ item. is_dash (item_tree item)) c.args.items.now l.item-index c.item-item.result c.is_dash.result false c.item-item.is c.is_dash.ensures c.if-is_dash.false in
    function_stops c.args.items.now l.item-index c.item-item.result (omega arith) c.item-item.is (map function_view l.found.items) l.group.items _
    c.signature_of.result c.push_found.new.list.items (rw c.if-after_dash.false at l.invariant) dash c.signature_of.ensures (rw c.if-not-branch-2.true at c.in_ok-push_found.ensures)

pub loop-item-preserved : goal.loop-item-preserved
loop-item-preserved g c =
    let l = c.loop-item in
    let d = c.item-item.result in
    let lt : l.item-index < length c.args.items.now = omega arith in
    elim c.if-after_dash.branch [
      | then-after_dash+in_ok-add_functions+else-not-branch w ↦
          rw (w.after_dash-is, w.group-is, w.found-is)
          (type_adds function_signature_at type_at number c.args.items.now l.item-index d lt c.item-item.is (map function_view l.found.items) (map signature_view l.group.items) _
          w.type_of.result (map function_view w.add_functions.new.found.items) (map signature_view w.add_functions.new.group.items) (rw w.if-after_dash.true at l.invariant) w.type_of.ensures
          (rw w.if-not-branch.false at w.in_ok-add_functions.ensures.typed) (ap (map signature_view) (w.in_ok-add_functions.ensures.group w.if-not-branch.false)))
      | else-after_dash+then-is_dash+else-len-eq0 w ↦
          let dash = there (λ item. is_dash (item_tree item)) c.args.items.now l.item-index d w.is_dash.result true c.item-item.is w.is_dash.ensures w.if-is_dash.true in
          rw (w.after_dash-is, w.group-is, w.found-is)
          (dash_done function_signature_at type_at number c.args.items.now l.item-index d lt _ _ _ (rw w.if-after_dash.false at l.invariant) dash (omega (arith, l.group.ok.0, length-map l.group.items signature_view)))
      | else-after_dash+else-is_dash+in_ok-push_found+else-not-branch-2 w ↦
          let dash = there (λ item. is_dash (item_tree item)) c.args.items.now l.item-index d w.is_dash.result false c.item-item.is w.is_dash.ensures w.if-is_dash.false in
          rw (w.after_dash-is, w.if-after_dash.false, w.group-is, w.found-is)
          (function_adds c.args.items.now l.item-index d lt c.item-item.is (map function_view l.found.items) l.group.items _
          w.signature_of.result w.push_found.new.list.items (rw w.if-after_dash.false at l.invariant) dash w.signature_of.ensures (rw w.if-not-branch-2.false at w.in_ok-push_found.ensures))
    ]

pub returns-then-after_dash-2 : goal.returns-then-after_dash-2
returns-then-after_dash-2 g c =
    let l = c.loop-item in
    end_fails function_signature_at type_at number c.args.items.now l.item-index (omega arith) _ _ _ (rw c.if-after_dash-2.true at l.invariant)

pub returns : goal.returns
returns g c =
    let l = c.loop-item in
    rw (← end_done function_signature_at type_at number c.args.items.now l.item-index (omega arith) _ _ _ (rw c.if-after_dash-2.false at l.invariant))
    (added_last (map function_view l.found.items) (map function_view c.add_functions-2.new.found.items) (map signature_view l.group.items) c.type_called.result c.add_functions-2.result number c.type_called.ensures c.add_functions-2.ensures.typed)
