use Rattle.pddl_happenings.proofs.NamedRuns.{unready_named, clash_has}
use Rattle.pddl_happenings.proofs.naming.failures_alike.Goals as goal

pub returns : goal.returns
returns g c = record { unready = unready_named; clash = clash_has }
