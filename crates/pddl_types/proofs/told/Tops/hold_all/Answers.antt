use Rattle.std.proofs.Common.{rules}
use Rattle.pddl_types.proofs.TopRows.{all_held}
use Rattle.pddl_types.proofs.told.Tops.hold_all.Goals as goal

pub returns-in_ok-missed-in-Some-Some : goal.returns-in_ok-missed-in-Some-Some
returns-in_ok-missed-in-Some-Some g c =
    let rows = rw c.in-Some-Some.is-0 at c.self.invariant in
    let of_others = rw c.in-Some-Some.is-1 at c.others.invariant in
    rw (← c.self.view_is, ← c.others.view_is) (all_held rows of_others _ (search rules))
