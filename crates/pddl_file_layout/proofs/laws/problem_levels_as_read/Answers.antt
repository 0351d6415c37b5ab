use Rattle.pddl_file_layout.proofs.ProblemTextLaws.{problem_levels}
use Rattle.pddl_file_layout.proofs.laws.problem_levels_as_read.Goals as goal

pub returns : goal.returns
returns c = problem_levels
