use Rattle.std.proofs.Common.{◌≡◌, ◌≤◌, true, get_or, sym, ap, ◌∙◌, subst}
use Rattle.std.specs.List.{slice_range}
use Rattle.pddl_token.specs.Names.{is_name}
use Rattle.pddl_problem.proofs.Pieces.{room_few, rise_few, piece_few, name_few}
use Rattle.pddl_problem.proofs.object_names.ObjectNames.at.Goals as goal

pub start-requires : goal.start-requires
start-requires g c = room_few c.self.inside.held c.args.self.now c.in-Few.field-0 c.in-Few.ends c.in-Few.bytes c.in-Few.is c.self.invariant c.self.view_is c.args.number c.requires

pub bounds-ends-number : goal.bounds-ends-number
bounds-ends-number g c = room_few c.self.inside.held c.args.self.now c.in-Few.field-0 c.in-Few.ends c.in-Few.bytes c.in-Few.is c.self.invariant c.self.view_is c.args.number c.requires

pub piece-requires-clause-rise : goal.piece-requires-clause-rise
piece-requires-clause-rise g c =
    subst (λ n. n ≤ get_or c.in-Few.ends c.args.number 0) (sym c.start.ensures)
    (rise_few c.self.inside.held c.args.self.now c.in-Few.field-0 c.in-Few.ends c.in-Few.bytes c.in-Few.is c.self.invariant c.self.view_is c.args.number c.requires).0

pub piece-requires-clause-fits : goal.piece-requires-clause-fits
piece-requires-clause-fits g c =
    (rise_few c.self.inside.held c.args.self.now c.in-Few.field-0 c.in-Few.ends c.in-Few.bytes c.in-Few.is c.self.invariant c.self.view_is c.args.number c.requires).1

pub returns-in-Few-clause-value : goal.returns-in-Few-clause-value
returns-in-Few-clause-value g c =
    c.piece.ensures ∙ ap (λ n. slice_range c.in-Few.bytes n (get_or c.in-Few.ends c.args.number 0)) c.start.ensures
    ∙ piece_few c.self.inside.held c.args.self.now c.in-Few.field-0 c.in-Few.ends c.in-Few.bytes c.in-Few.is c.self.invariant c.self.view_is c.args.number c.requires

pub returns-in-Few-clause-name : goal.returns-in-Few-clause-name
returns-in-Few-clause-name g c =
    subst (λ n. is_name n ≡ true)
    (sym
    (c.piece.ensures ∙ ap (λ n. slice_range c.in-Few.bytes n (get_or c.in-Few.ends c.args.number 0)) c.start.ensures
    ∙ piece_few c.self.inside.held c.args.self.now c.in-Few.field-0 c.in-Few.ends c.in-Few.bytes c.in-Few.is c.self.invariant c.self.view_is c.args.number c.requires))
    (name_few c.self.inside.held c.args.self.now c.in-Few.field-0 c.in-Few.ends c.in-Few.bytes c.in-Few.is c.self.invariant c.self.view_is c.args.number c.requires)
