use Rattle.pddl_linked_plan.proofs.InitialAtoms.{known_in_range}
use Rattle.pddl_linked_plan.proofs.initial.known_atoms_have_numbers.Goals as goal

pub returns : goal.returns
returns c = known_in_range
