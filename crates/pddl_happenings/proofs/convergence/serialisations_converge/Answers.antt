use Rattle.pddl_happenings.proofs.NewPlans.{converge}
use Rattle.pddl_happenings.proofs.convergence.serialisations_converge.Goals as goal

pub returns : goal.returns
returns g c = converge
