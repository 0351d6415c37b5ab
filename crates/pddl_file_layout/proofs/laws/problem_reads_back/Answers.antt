use Rattle.pddl_file_layout.proofs.ProblemTextLaws.{problem_reads_back}
use Rattle.pddl_file_layout.proofs.laws.problem_reads_back.Goals as goal

pub returns : goal.returns
returns c = problem_reads_back
