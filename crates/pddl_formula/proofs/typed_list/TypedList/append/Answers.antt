use Rattle.std.proofs.Common.{map, sym, ◌∙◌}
use Rattle.std.proofs.lemmas.List.{map-append}
use Rattle.pddl_formula.specs.TypedLists.{typed_view}
use Rattle.pddl_formula.proofs.Grouped.{many_seen, grouped_both, grouped_cut}
use Rattle.pddl_formula.proofs.typed_list.TypedList.append.Goals as goal

pub invariant_of-self : goal.invariant_of-self
invariant_of-self g c i s = c.self.invariant i (c.in_err-append.ensures.kept i s)

pub invariant_of-self-then-is_err : goal.invariant_of-self-then-is_err
invariant_of-self-then-is_err g c =
    rw (c.append-appended.ensures.items, c.if-is_err.ensures.negation)
    (grouped_cut (map typed_view c.self.inside.items.items) c.self.inside.groups c.other.inside.groups c.append.new.self c.truncate.new.self c.len-count.result c.self.invariant c.append.ensures.only c.truncate.ensures)

pub invariant_of-self-else-is_err : goal.invariant_of-self-else-is_err
invariant_of-self-else-is_err g c =
    let items = c.self.inside.items in
    let more = c.other.inside.items in
    rw (c.append-appended.ensures.items, c.if-is_err.ensures.negation, map-append typed_view items.items more.items)
    (grouped_both (map typed_view items.items) (map typed_view more.items) c.self.inside.groups c.other.inside.groups c.append.new.self c.len-count.result c.self.invariant c.other.invariant
    (many_seen typed_view items ∙ sym c.len-count.ensures) c.append.ensures.only)
