use Rattle.std.proofs.Common.{map, sym, ◌∙◌}
use Rattle.pddl_formula.specs.TypedLists.{typed_view}
use Rattle.pddl_formula.proofs.Grouped.{many_seen, grouped_kept, grouped_more}
use Rattle.pddl_formula.proofs.typed_list.TypedList.add.Goals as goal

pub invariant_of-self : goal.invariant_of-self
invariant_of-self g c = grouped_kept (map typed_view c.self.inside.items.items) (map typed_view c.add_names.new.items.items) c.self.inside.groups c.self.invariant c.in_err-add_names.ensures.grown

pub invariant_of-self-2 : goal.invariant_of-self-2
invariant_of-self-2 g c =
    let items = c.self.inside.items in
    let all = c.add_names.new.items in
    grouped_more (map typed_view items.items) (map typed_view all.items) c.self.inside.groups c.add.new.self c.args.names.items c.args.types.now c.len-first.result c.len.result c.self.invariant
    c.in_ok-add_names.ensures.added (many_seen typed_view items ∙ sym c.len-first.ensures) (many_seen typed_view all ∙ sym c.len.ensures) c.add.ensures.only
