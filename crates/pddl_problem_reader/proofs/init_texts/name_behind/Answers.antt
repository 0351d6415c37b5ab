use Rattle.pddl_problem_reader.proofs.init_texts.name_behind.Goals as goal

pub returns-in-Some-clause-name : goal.returns-in-Some-clause-name
returns-in-Some-clause-name g c = λ words lexed. rw c.in-Some.is at (c.in_ok-name.ensures.next words lexed)
