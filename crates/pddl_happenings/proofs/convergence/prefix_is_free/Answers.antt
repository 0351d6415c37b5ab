use Rattle.pddl_happenings.proofs.Prefixes.{prefix_state, prefix_reads}
use Rattle.pddl_happenings.proofs.convergence.prefix_is_free.Goals as goal

pub returns : goal.returns
returns g c = record { state = prefix_state; reads = prefix_reads }
