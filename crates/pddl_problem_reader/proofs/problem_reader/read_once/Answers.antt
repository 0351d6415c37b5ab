use Rattle.pddl_problem.specs.Problems.{problem_view}
use Rattle.pddl_problem_reader.specs.Inner.Slots.{slots_view}
use Rattle.pddl_problem_reader.proofs.ProblemTexts.{made_in_one}
use Rattle.pddl_problem_reader.proofs.problem_reader.read_once.Goals as goal

pub returns : goal.returns
returns g c = made_in_one c.args.text.now (slots_view c.read_file-name.new.slots) c.read_file-name.result problem_view c.if_read.result (c.read_file-name.ensures.hold) c.if_read.ensures
