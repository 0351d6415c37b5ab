use Rattle.std.proofs.Common.{refl, sym, rules}
use denote.Enum.Bare.{same_true}
use Rattle.pddl_token.specs.contracts.token.TokenKind.{the_type}
use Rattle.pddl_token.specs.Spelling.{view}
use Rattle.pddl_file.proofs.one_pass.word_behind.Goals as goal

pub returns-in-Some-clause-word : goal.returns-in-Some-clause-word
returns-in-Some-clause-word c = λ words lexed.
    (view c.in-Some.token, same_true the_type (search rules) _ _ (sym c.if-eq.ensures), refl, rw c.in-Some.is at (c.in_ok-token.ensures.next words lexed))
