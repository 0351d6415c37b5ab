use Rattle.std.proofs.Common.{◌++◌, List, sym, subst, arith}
use Rattle.pddl_token.specs.Spelling.{PlacedWord, Spells}
use Rattle.pddl_scan.specs.Faults.{AreValued}
use Rattle.pddl_text.proofs.AllGiven.{none_since, no_fault_in_words}
use Rattle.pddl_scan.proofs.Lexed.{one_spelling}
use Rattle.pddl_text.proofs.plan_lexer.PlanLexer+ref+B.finish.Goals as goal

pub returns-in-Ok-clause-words : goal.returns-in-Ok-clause-words
returns-in-Ok-clause-words g c = λ text words stands.
    subst (λ (ws : List PlacedWord). Spells (words ++ ws) text × AreValued (words ++ ws)) (sym c.in-Ok.ensures)
    (c.in_default.ensures.words text words (none_since c.args.self text words c.new-words.result c.new-words.ensures stands))

pub returns-in-Ok-clause-only : goal.returns-in-Ok-clause-only
returns-in-Ok-clause-only g c = λ text words all stands spelled valued. one_spelling _ all text (returns-in-Ok-clause-words g c text words stands).0 spelled

pub returns-in-Err-clause-fault : goal.returns-in-Err-clause-fault
returns-in-Err-clause-fault g c = λ text words stands. c.in-Err.ensures.fault text words (none_since c.args.self text words c.new-words.result c.new-words.ensures stands)

pub returns-in-Err-clause-only : goal.returns-in-Err-clause-only
returns-in-Err-clause-only g c = λ text words all stands spelled valued.
    no_fault_in_words c.in-Err.fault text all (omega (arith, stands.counted, c.args.self.short)) (returns-in-Err-clause-fault g c text words stands) spelled valued
