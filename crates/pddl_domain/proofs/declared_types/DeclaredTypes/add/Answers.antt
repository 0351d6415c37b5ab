use Rattle.std.proofs.Common.{map, sym, ◌∙◌}
use Rattle.pddl_domain.specs.Declarations.{type_view}
use Rattle.pddl_formula.proofs.Grouped.{many_seen, grouped_kept, grouped_more}
use Rattle.pddl_domain.proofs.declared_types.DeclaredTypes.add.Goals as goal

pub invariant_of-self : goal.invariant_of-self
invariant_of-self g c = grouped_kept (map type_view c.self.inside.types.items) (map type_view c.add_below.new.types.items) c.self.inside.groups c.self.invariant c.in_err-add_below.ensures.grown

pub invariant_of-self-2 : goal.invariant_of-self-2
invariant_of-self-2 g c =
    let types = c.self.inside.types in
    let all = c.add_below.new.types in
    grouped_more (map type_view types.items) (map type_view all.items) c.self.inside.groups c.add.new.self c.args.names.items c.args.parent.now.value c.len-first.result c.len.result c.self.invariant
    c.in_ok-add_below.ensures.added (many_seen type_view types ∙ sym c.len-first.ensures) (many_seen type_view all ∙ sym c.len.ensures) c.add.ensures.only
