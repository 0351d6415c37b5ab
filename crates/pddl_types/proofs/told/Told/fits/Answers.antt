use Rattle.std.proofs.Common.{sym, subst}
use Rattle.pddl_types.specs.Told.{IsAt}
use Rattle.pddl_types.proofs.ToldTypes.{apart_read, decided_there, own_fits, tops_read}
use Rattle.pddl_types.proofs.told.Told.fits.Goals as goal

pub returns-then-number-slot-clause-fits : goal.returns-then-number-slot-clause-fits
returns-then-number-slot-clause-fits g c = λ of to at there. own_fits _ c.args.self.now c.args.number of to at (subst (IsAt c.args.self.now to) (sym c.if-number-slot.true) there)

pub told_fit-requires : goal.told_fit-requires
told_fit-requires g c = record {
  outer = apart_read c.requires c.args.slot _ (rw c.self.view_is at c.in-Some-Some.ensures'.entry);
  inner = apart_read c.requires c.args.number _ (rw c.self.view_is at c.in-Some-Some.ensures.entry);
}

pub invariant_of-self : goal.invariant_of-self
invariant_of-self g c =
    (c.told_fit.ensures c.self.inside.types.entries c.self.invariant (tops_read _ c.args.number _ c.in-Some-Some.ensures.entry) (tops_read _ c.args.slot _ c.in-Some-Some.ensures'.entry)).0

pub returns-in-Some-Some-clause-fits : goal.returns-in-Some-Some-clause-fits
returns-in-Some-Some-clause-fits g c = λ of to at there.
    let held = rw c.self.view_is at (c.told_fit.ensures c.self.inside.types.entries c.self.invariant (tops_read _ c.args.number _ c.in-Some-Some.ensures.entry) (tops_read _ c.args.slot _ c.in-Some-Some.ensures'.entry)).1 in
    rw (decided_there c.requires c.tops_decide.ensures c.args.number c.args.slot of to at there) at held
