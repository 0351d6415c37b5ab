use Rattle.std.proofs.Common.{◌∙◌, sym, subst}
use Rattle.pddl_types.specs.TypeSpans.{IsTold}
use Rattle.pddl_types.proofs.FittingSpans.{fitting_many}
use Rattle.pddl_types.proofs.known.Tables.fitting_count.Goals as goal

pub returns-in-Ok : goal.returns-in-Ok
returns-in-Ok g c =
    let f = c.args.self.now in
    c.count.ensures ∙ fitting_many f.known.types c.args.slot.now c.in-Ok.ensures.tell (subst (IsTold f.known.types c.args.slot.now) (sym c.deref.ensures.value) c.in-Ok.ensures.told) _ _ f.numbered
