use Rattle.pddl_compiled.proofs.Parameters.{parameters_fit}
use Rattle.pddl_compiled.proofs.laws.parameters_fit.Goals as goal

pub returns : goal.returns
returns c = parameters_fit
