use Rattle.std.proofs.Common.{◌∙◌, ◌+◌, length, sym, subst, arith}
use Rattle.pddl_text.specs.LineStarts.{AreStarts}
use Rattle.pddl_text.proofs.LinesBegun.{starts_fed, lines_fed}
use Rattle.pddl_text.proofs.places.Places.feed.Goals as goal

pub invariant_of-self-2 : goal.invariant_of-self-2
invariant_of-self-2 g c =
    subst (λ t. AreStarts t (c.self.inside.len + length c.args.piece.now)) (sym c.in_ok-add_all_starts.ensures.added)
    (starts_fed c.self.inside.starts.items c.args.piece.now c.self.inside.len c.self.invariant (omega (arith, c.if-piece-self.false, c.self.invariant.within)))

pub returns-clause-lines : goal.returns-clause-lines
returns-clause-lines g c = λ text kept.
    lines_fed c.self.inside.starts.items _ c.args.piece.now text c.self.inside.len (c.self.view_is ∙ kept) c.in_ok-add_all_starts.ensures.added
