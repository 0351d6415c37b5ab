use Rattle.std.specs.Prelude.{codes}
use Rattle.pddl_file.proofs.FaultPlaces.{file_inside}
use Rattle.pddl_problem_reader.specs.ProblemTexts.{problem_rules, required}
use Rattle.pddl_problem_reader.proofs.problem_reader.problem_fault_in_text.Goals as goal

pub returns : goal.returns
returns c = file_inside problem_rules (codes "problem") required
