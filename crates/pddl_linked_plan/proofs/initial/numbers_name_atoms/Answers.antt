use Rattle.pddl_linked_plan.proofs.InitialAtoms.{numbers_name}
use Rattle.pddl_linked_plan.proofs.initial.numbers_name_atoms.Goals as goal

pub returns : goal.returns
returns c = numbers_name
