use Rattle.pddl_problem_reader.proofs.OnePass.{then_ok}
use Rattle.pddl_problem_reader.proofs.one_pass.read_objects.Goals as goal

pub returns-clause-objects : goal.returns-clause-objects
returns-clause-objects g c = λ words lexed.
    then_ok c.add_typed_names-read.result c.keep_objects.result c.keep_objects.ensures.read (c.add_typed_names-read.ensures.objects words lexed) c.keep_objects.ensures.kept (λ xs made. (_, xs, made))
