use Rattle.std.proofs.Common.{refl, rules}
use Rattle.pddl_file_lines.proofs.outcome.status.Goals as goal

pub returns-in-Ok-Good-clause-good : goal.returns-in-Ok-Good-clause-good
returns-in-Ok-Good-clause-good c = (λ _. search rules, λ _. refl)
