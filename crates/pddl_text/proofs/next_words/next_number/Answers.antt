use Rattle.std.proofs.Common.{subst}
use Rattle.pddl_scan.specs.Inner.Reading.{IsNumberAt}
use Rattle.pddl_text.proofs.NextWords.{number_lexed}
use Rattle.pddl_text.proofs.next_words.next_number.Goals as goal

pub returns-clause-next : goal.returns-clause-next
returns-clause-next c = λ words lexed.
    let here = subst (λ t. IsNumberAt t c.in_ok-number.number c.in_ok-number.len) c.split_at.ensures.back c.in_ok-number.ensures in
    number_lexed c.args.text.now words c.word_begin-begin.result c.in_ok-number.len c.in_ok-number.number (c.word_begin-begin.ensures.lexed words lexed) here
