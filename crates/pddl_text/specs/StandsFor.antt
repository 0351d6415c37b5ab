-- For which text a lexer in pieces stands, and for which words given. Own.
use Rattle.std.specs.Prelude.{◌≡◌, ℕ, true, false, List, length}
use Rattle.pddl_text.specs.declared.plan_lexer.PlanLexer.{PlanLexer}
use Rattle.pddl_token.specs.Spelling.{PlacedWord}
use Rattle.pddl_scan.specs.InPieces.{HasRead}

-- the pieces make the text, and the words were given of it
pub record StandsFor {A : _} (lexer : PlanLexer A) (text : List ℕ) (words : List PlacedWord) : Type 0 where
  pub going : lexer.failed ≡ false
  pub counted : lexer.len ≡ length text
  pub read : HasRead lexer.progress lexer.held.items text words

-- no piece was refused
abbrev pub IsGoing : {A : _} → PlanLexer A → Type 0
IsGoing lexer = lexer.failed ≡ false

-- a piece was refused
abbrev pub HasRefused : {A : _} → PlanLexer A → Type 0
HasRefused lexer = lexer.failed ≡ true
