use Rattle.pddl_step_reader.proofs.StepsRead.{ended_low}
use Rattle.pddl_step_reader.proofs.plan_words.ended_by.Goals as goal

pub returns-in_default-clause-in_range : goal.returns-in_default-clause-in_range
returns-in_default-clause-in_range c = λ lt. ended_low c.args.before c.args.count lt
