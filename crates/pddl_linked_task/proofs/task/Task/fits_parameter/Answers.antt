use Rattle.std.proofs.Common.{sym, ◌∙◌}
use Rattle.pddl_types.proofs.FittingSpans.{object_fits, none_fits}
use Rattle.pddl_linked_task.proofs.task.Task.fits_parameter.Goals as goal

pub returns-in-Some : goal.returns-in-Some
returns-in-Some g c =
    let t = c.self.inside.tables in
    let h = c.self.invariant.known in
    rw (← c.self.view_is) (λ a x here there.
    let told = c.parameter_tops-tops.ensures.told _ _ a x h here there in
    rw (h.typed, h.listed.objects) at
    (object_fits t.known.types x.of _ _ t.numbered c.args.object c.in-Some.number c.is_under_tops.result (sym c.number.ensures ∙ c.in-Some.is) (λ n. c.is_under_tops.ensures x.of n told)))

pub returns-in-None : goal.returns-in-None
returns-in-None g c =
    let h = c.self.invariant.known in
    rw (← c.self.view_is) (λ a x here there. rw (h.typed, h.listed.objects) at (none_fits c.self.inside.tables.known.types x.of _ _ c.self.inside.tables.numbered c.args.object (sym c.number.ensures ∙ c.in-None.is)))

pub is_under_tops-requires : goal.is_under_tops-requires
is_under_tops-requires g c = c.parameter_tops-tops.ensures.apart c.self.inside.tables.known.types c.self.invariant.known.types
