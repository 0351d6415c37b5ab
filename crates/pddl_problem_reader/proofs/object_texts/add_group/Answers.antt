use Rattle.pddl_problem_reader.proofs.object_texts.add_group.Goals as goal

pub returns-clause-group : goal.returns-clause-group
returns-clause-group g c = λ words lexed. (_, c.in_ok-types.ensures.spelled words lexed, c.in_ok-add_of_type.ensures)
