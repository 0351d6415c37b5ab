use Rattle.std.proofs.Common.{◌≤◌, ◌∙◌, ap, sym, length, arith}
use Rattle.std.specs.Prelude.{flat_map}
use Rattle.pddl_items.specs.Items.{item_view, items_view}
use Rattle.pddl_items.specs.ItemTrees.{item_trees}
use Rattle.pddl_sections.specs.Sections.{lists_in}
use Rattle.pddl_sections.specs.Inner.Verdicts.{first_mark}
use Rattle.pddl_sections.proofs.Turns.{mark_end, mark_here, mark_later}
use Rattle.pddl_file.specs.Inner.WordReading.{list_mark, mark_in}
use Rattle.pddl_file.proofs.WordTurns.{list_marked, list_unmarked}
use Rattle.pddl_file.proofs.mark.+marks.Goals as goal

pub first_marked-returns-in-Some : goal.first_marked-returns-in-Some
first_marked-returns-in-Some g t c =
    let in_types = c.args.in_types in
    list_marked in_types c.in-List.items c.in-List.span c.in-Some.mark (c.in-Some.ensures ∙ ap (λ xs. list_mark in_types (item_trees xs)) c.deref.ensures.value)
    ∙ ap (λ item. first_mark (mark_in in_types) (lists_in (item_view item))) (sym c.in-List.is)

pub first_marked-returns-in-None : goal.first_marked-returns-in-None
first_marked-returns-in-None g t c =
    let in_types = c.args.in_types in
    c.first_marked_in.ensures ∙ ap (λ xs. first_mark (mark_in in_types) (flat_map lists_in (items_view xs))) c.deref-in-None.ensures.value
    ∙ list_unmarked in_types c.in-List.items c.in-List.span (c.in-None.ensures ∙ ap (λ xs. list_mark in_types (item_trees xs)) c.deref.ensures.value)
    ∙ ap (λ item. first_mark (mark_in in_types) (lists_in (item_view item))) (sym c.in-List.is)

pub first_marked_in-returns-in-Some : goal.first_marked_in-returns-in-Some
first_marked_in-returns-in-Some g t c =
    let l = c.loop-item in
    mark_here (mark_in c.args.in_types) c.args.items.now l.item-index c.item-item.result (omega arith) _ c.in-Some.found
    (c.in-Some.ensures ∙ ap (λ item. first_mark (mark_in c.args.in_types) (lists_in (item_view item))) c.item-item.is) l.invariant

pub first_marked_in-loop-item-preserved : goal.first_marked_in-loop-item-preserved
first_marked_in-loop-item-preserved g t c =
    let l = c.loop-item in
    mark_later (mark_in c.args.in_types) c.args.items.now l.item-index c.item-item.result (omega arith) _
    (c.in_default.ensures ∙ ap (λ item. first_mark (mark_in c.args.in_types) (lists_in (item_view item))) c.item-item.is) l.invariant

pub first_marked_in-returns : goal.first_marked_in-returns
first_marked_in-returns g t c =
    let l = c.loop-item in
    let past : length c.args.items.now ≤ l.item-index = omega arith in
    sym (mark_end (mark_in c.args.in_types) c.args.items.now l.item-index past) ∙ l.invariant
