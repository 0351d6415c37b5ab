use Rattle.std.proofs.Common.{◌++◌}
use Rattle.pddl_problem_reader.proofs.init_texts.objects_behind.Goals as goal

pub returns-clause-objects : goal.returns-clause-objects
returns-clause-objects g c = λ words lexed.
    let names = c.in_ok-add_names.ensures.names words lexed in
    let (closing, is_close, behind) = c.in_ok-sign_behind.ensures.sign (words ++ names.more) names.lexed in
    record { more = names.more; are = rw c.in_ok-of.ensures names.are; closing = closing; is_close = is_close; lexed = behind }
