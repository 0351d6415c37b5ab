use Rattle.pddl_problem_reader.proofs.OnePass.{then_ok}
use Rattle.pddl_problem_reader.proofs.one_pass.read_init.Goals as goal

pub returns-clause-init : goal.returns-clause-init
returns-clause-init g c = λ words lexed.
    then_ok c.add_inits-read.result c.keep_inits.result c.keep_inits.ensures.read (c.add_inits-read.ensures.inits words lexed) c.keep_inits.ensures.kept (λ inits made. (_, inits, made))
