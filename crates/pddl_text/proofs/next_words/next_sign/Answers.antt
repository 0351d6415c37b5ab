use Rattle.pddl_text.proofs.NextWords.{sign_lexed}
use Rattle.pddl_text.proofs.next_words.next_sign.Goals as goal

pub returns-in-Some-clause-next : goal.returns-in-Some-clause-next
returns-in-Some-clause-next c = λ words lexed yes.
    sign_lexed c.args.text.now words c.word_begin-begin.result c.args.kind c.in-Some.sign (c.word_begin-begin.ensures.lexed words lexed) c.if-begin-text.true c.if-text-begin.true c.in-Some.ensures
