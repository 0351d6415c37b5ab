use Rattle.std.proofs.Common.{subst}
use Rattle.pddl_token.specs.Names.{IsFrontName}
use Rattle.pddl_text.proofs.NextWords.{name_lexed}
use Rattle.pddl_text.proofs.next_words.next_name.Goals as goal

pub returns-in-Some-clause-next : goal.returns-in-Some-clause-next
returns-in-Some-clause-next g c = λ words lexed.
    let front = subst (λ t. IsFrontName t c.in-Some.name c.in-Some.len) c.split_at.ensures.back (rw c.in-Some.is at c.in_ok-name.ensures) in
    name_lexed c.args.text.now words c.word_begin-begin.result c.in-Some.len c.in-Some.name (c.word_begin-begin.ensures.lexed words lexed) front
