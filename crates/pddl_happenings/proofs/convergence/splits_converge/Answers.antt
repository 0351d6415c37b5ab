use Rattle.pddl_happenings.proofs.NewPlans.{groups_accepted}
use Rattle.pddl_happenings.proofs.convergence.splits_converge.Goals as goal

pub returns : goal.returns
returns g c = groups_accepted
