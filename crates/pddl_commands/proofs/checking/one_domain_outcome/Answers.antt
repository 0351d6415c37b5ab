use Rattle.pddl_commands.proofs.OneCheck as checks
use Rattle.pddl_commands.proofs.checking.one_domain_outcome.Goals as goal

pub returns : goal.returns
returns c = checks.one_domain_outcome
