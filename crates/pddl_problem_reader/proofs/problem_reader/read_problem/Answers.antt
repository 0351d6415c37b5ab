use Rattle.pddl_problem_reader.proofs.ProblemTexts.{one_problem}
use Rattle.pddl_problem_reader.proofs.problem_reader.read_problem.Goals as goal

pub returns-in-Ok-clause-only : goal.returns-in-Ok-clause-only
returns-in-Ok-clause-only g c = λ problem spells. one_problem c.args.text.now _ problem c.in-Ok.ensures spells
