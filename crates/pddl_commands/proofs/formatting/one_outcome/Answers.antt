use Rattle.pddl_commands.proofs.OneOutcome as outcomes
use Rattle.pddl_commands.proofs.formatting.one_outcome.Goals as goal

pub returns : goal.returns
returns c = outcomes.one_outcome
