use Rattle.pddl_token.proofs.NumberTexts.{reads_as_it}
use Rattle.pddl_token.proofs.fixed.number_reads_back.Goals as goal

pub returns-clause-number : goal.returns-clause-number
returns-clause-number c = λ n le. (reads_as_it n le).0

pub returns-clause-value : goal.returns-clause-value
returns-clause-value c = λ n le. (reads_as_it n le).1
