use Rattle.std.proofs.Common.{ap}
use Rattle.pddl_file_layout.specs.ProblemLayout.{problem_text}
use Rattle.pddl_file_layout.proofs.ProblemTextLaws.{one_canonical_problem}
use Rattle.pddl_file_layout.proofs.laws.one_canonical_problem.Goals as goal

pub returns : goal.returns
returns c = λ p q text more a b within inside short brief. (one_canonical_problem p q text more a b within inside short brief, λ same. ap problem_text same)
