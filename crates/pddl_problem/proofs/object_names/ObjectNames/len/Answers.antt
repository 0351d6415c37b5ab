use Rattle.std.proofs.Common.{◌≤◌, length, take, sym, ap, ◌∙◌, arith}
use Rattle.std.proofs.lemmas.List.{length-take-le}
use Rattle.pddl_problem.proofs.Pieces.{pieces_many}
use Rattle.pddl_problem.proofs.object_names.ObjectNames.len.Goals as goal

pub returns-in-Few : goal.returns-in-Few
returns-in-Few g c =
    let held = rw c.in-Few.is at c.self.invariant in
    let few : c.in-Few.count ≤ length c.in-Few.field-1 = omega (arith, held.0, held.1) in
    sym (length-take-le c.in-Few.count c.in-Few.field-1 few) ∙ sym (pieces_many 0 (take c.in-Few.count c.in-Few.field-1) c.in-Few.field-2) ∙ ap length (rw c.in-Few.is at c.self.view_is)
