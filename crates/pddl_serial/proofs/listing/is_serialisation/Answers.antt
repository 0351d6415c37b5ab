use Rattle.std.proofs.Common.{◌↔◌, length, get_or, IsTrue}
use Rattle.std.proofs.lemmas.Result.{IfOk-weaker}
use Rattle.pddl_happenings.specs.Serialisations.{IsSerialOrder}
use Rattle.pddl_judge.specs.HappeningValues.{groups_of}
use Rattle.pddl_serial.specs.Inner.Places.{IsOrderBy}
use Rattle.pddl_serial.proofs.Passes.{serial_by_places}
use Rattle.pddl_serial.proofs.listing.is_serialisation.Goals as goal

pub returns : goal.returns
returns g c =
    let hs = groups_of c.args.happenings.now in
    let order = c.args.order.now in
    let lent = c.deref.result.now in
    IfOk-weaker c.is_order_by.result (λ b. IsTrue b ↔ IsOrderBy (λ k. get_or lent k 0) (length lent) order) (λ b. IsTrue b ↔ IsSerialOrder hs order)
    (serial_by_places hs c.args.steps c.requires c.in_ok-places.places.items lent order c.in_ok-places.ensures.length c.in_ok-places.ensures.places c.deref.ensures.value)
    c.is_order_by.ensures
