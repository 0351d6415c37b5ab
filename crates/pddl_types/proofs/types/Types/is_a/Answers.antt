use Rattle.std.proofs.Common.{sym, ap, ◌∙◌}
use Rattle.pddl_types.proofs.NamedSpans.{in_table, subtype_told}
use Rattle.pddl_types.proofs.types.Types.is_a.Goals as goal

pub returns-then-contains : goal.returns-then-contains
returns-then-contains g c =
    c.holds.ensures
    ∙ subtype_told c.args.self.now (in_table c.self.view_is c.self.invariant) c.args.sub.now c.args.over.now c.span-then-contains.result.first c.span.result (sym c.contains.ensures ∙ c.if-contains.true) (ap (λ s. s.first) c.span-then-contains.ensures) c.span.ensures
