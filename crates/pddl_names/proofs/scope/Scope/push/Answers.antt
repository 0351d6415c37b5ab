use Rattle.std.proofs.Common.{[], ◌∷◌, ◌+◌, arith, reverse}
use Rattle.std.proofs.lemmas.List.{reverse-append, length-reverse}
use Rattle.pddl_names.specs.declared.scope.Bound.{Bound}
use Rattle.pddl_names.proofs.Scopes.{scope_more}
use Rattle.pddl_names.proofs.scope.Scope.push.Goals as goal

pub invariant_of-self-2 : goal.invariant_of-self-2
invariant_of-self-2 g c =
    let s = c.self.inside in
    let bound = s.bound.items in
    let added : Bound g.row.A.Denot = record { variable = c.args.variable; number = c.args.number; hidden = c.innermost-hidden.result } in
    rw (c.in_ok-push.ensures.items, c.in_ok-reserve.ensures.items, c.in_ok-insert.ensures.entries, reverse-append bound (added ∷ []))
    (scope_more (reverse bound) s.innermost.entries added c.as_bytes-name.result (c.len-depth.result + 1) c.as_bytes-name.ensures.value (rw (← c.self.view_is) at c.innermost-hidden.ensures) (omega (arith, length-reverse bound, c.len-depth.ensures)) c.self.invariant)
