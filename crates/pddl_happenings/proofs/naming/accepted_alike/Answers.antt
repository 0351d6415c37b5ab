use Rattle.pddl_happenings.proofs.NamedRuns.{fine_alike, end_alike, cost_alike, accepted_named, refused_named}
use Rattle.pddl_happenings.proofs.naming.accepted_alike.Goals as goal

pub returns : goal.returns
returns g c = record { fine = fine_alike; end = end_alike; cost = cost_alike; accepted = accepted_named; refused = refused_named }
