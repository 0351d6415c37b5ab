use Rattle.std.proofs.Common.{arith}
use Rattle.std.proofs.lemmas.Bool.Decides.{nat_tests}
use Rattle.std.proofs.lemmas.Option.{slice_get_cases}
use Rattle.pddl_types.proofs.object_order.ObjectOrder.number.Goals as goal

pub returns : goal.returns
returns g c = rw (c.copied.ensures, ← c.deref.ensures.value) (grind (arith, nat_tests, slice_get_cases c.deref.result.now c.args.object, c.get.ensures.lookup))
