use Rattle.std.specs.Prelude.{codes}
use Rattle.pddl_file.proofs.FaultPlaces.{file_inside}
use Rattle.pddl_problem_reader.specs.ProblemTexts.{problem_rules, required}
use Rattle.pddl_file_lines.proofs.refused.refused_problem.Goals as goal

pub refused_file-requires : goal.refused_file-requires
refused_file-requires g c = λ at place. file_inside problem_rules (codes "problem") required c.args.text.now c.args.fault.now at c.requires place
