use Rattle.pddl_serial.proofs.Ends.{one_place, runs_or_fails}
use Rattle.pddl_serial.proofs.replaying.a_list_ends_once.Goals as goal

pub returns : goal.returns
returns g c = record { runs = runs_or_fails; place = one_place }
