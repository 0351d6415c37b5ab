use Rattle.pddl_problem_reader.proofs.ProblemTexts as laws
use Rattle.pddl_problem_reader.proofs.problem_reader.no_fault_in_problem.Goals as goal

pub returns : goal.returns
returns c = laws.no_fault
