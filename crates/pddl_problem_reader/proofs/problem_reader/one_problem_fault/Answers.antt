use Rattle.pddl_problem_reader.proofs.ProblemTexts as laws
use Rattle.pddl_problem_reader.proofs.problem_reader.one_problem_fault.Goals as goal

pub returns : goal.returns
returns c = laws.one_fault
