use Rattle.pddl_linked_plan.proofs.InitialAtoms.{range_names_one}
use Rattle.pddl_linked_plan.proofs.initial.atoms_in_range_name_one.Goals as goal

pub returns : goal.returns
returns c = range_names_one
