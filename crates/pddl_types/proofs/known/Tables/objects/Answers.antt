use Rattle.std.proofs.Common.{sym, subst}
use Rattle.pddl_types.specs.TypeSpans.{IsTold}
use Rattle.pddl_types.proofs.FittingSpans.{fitting_places}
use Rattle.pddl_types.proofs.known.Tables.objects.Goals as goal

pub returns : goal.returns
returns g c =
    let f = c.args.self.now in
    rw (fitting_places f.known.types c.args.slot.now c.in_ok-tops.ensures.tell (subst (IsTold f.known.types c.args.slot.now) (sym c.deref.ensures.value) c.in_ok-tops.ensures.told) 0 _ _ f.numbered) at c.objects_under.ensures
