use Rattle.pddl_commands.proofs.OneCheck as checks
use Rattle.pddl_commands.proofs.checking.one_problem_outcome.Goals as goal

pub returns : goal.returns
returns c = checks.one_problem_outcome
