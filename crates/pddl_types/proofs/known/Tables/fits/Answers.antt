use Rattle.std.proofs.Common.{sym, ◌∙◌}
use Rattle.pddl_types.proofs.FittingSpans.{object_fits, none_fits}
use Rattle.pddl_types.proofs.known.Tables.fits.Goals as goal

pub returns-in-Some : goal.returns-in-Some
returns-in-Some g c = object_fits c.args.self.now.known.types c.args.slot.now _ _ c.args.self.now.numbered c.args.object c.in-Some.number c.is_under_some.result (sym c.number.ensures ∙ c.in-Some.is) c.is_under_some.ensures

pub returns-in-None : goal.returns-in-None
returns-in-None g c = none_fits c.args.self.now.known.types c.args.slot.now _ _ c.args.self.now.numbered c.args.object (sym c.number.ensures ∙ c.in-None.is)
