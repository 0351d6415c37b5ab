use Rattle.std.proofs.Common.{◌++◌, List, sym, subst}
use Rattle.pddl_token.specs.Spelling.{PlacedWord}
use Rattle.pddl_text.specs.StandsFor.{StandsFor}
use Rattle.pddl_text.proofs.AllGiven.{none_since, partly, lines, same_err}
use Rattle.pddl_text.proofs.plan_lexer.PlanLexer+ref+B.feed.Goals as goal

pub returns-in-Ok-clause-stands : goal.returns-in-Ok-clause-stands
returns-in-Ok-clause-stands g c = λ text words stands.
    subst (λ (ws : List PlacedWord). StandsFor c.feed_into.new.self (text ++ c.args.piece.now) (words ++ ws)) (sym c.in-Ok.ensures)
    (c.in_default.ensures.stands text words (none_since c.args.self.now text words c.new-words.result c.new-words.ensures stands))

pub returns-in-Ok-clause-partly : goal.returns-in-Ok-clause-partly
returns-in-Ok-clause-partly g c = λ text words stands. partly c.feed_into.new.self (text ++ c.args.piece.now) _ (returns-in-Ok-clause-stands g c text words stands)

pub returns-in-Ok-clause-lines : goal.returns-in-Ok-clause-lines
returns-in-Ok-clause-lines g c = λ text words all stands line spelled valued.
    lines c.feed_into.new.self (text ++ c.args.piece.now) _ all (returns-in-Ok-clause-stands g c text words stands) line spelled valued

pub returns-in-Err-clause-too_long : goal.returns-in-Err-clause-too_long
returns-in-Err-clause-too_long g c = λ text words stands. same_err c.in-Err.fault _ _ (c.in-Err.ensures.too_long text words stands)

pub returns-in-Ok-clause-too_long : goal.returns-in-Ok-clause-too_long
returns-in-Ok-clause-too_long g c = λ text words stands. (λ e. absurd (cc (e)), λ long. absurd (cc ((c.in_default.ensures.too_long text words stands).1 long)))

pub returns-clause-too_long : goal.returns-clause-too_long
returns-clause-too_long g c = λ text words stands. (λ e. absurd (cc (e)), λ long. absurd (cc ((c.in_default.ensures.too_long text words stands).1 long)))
