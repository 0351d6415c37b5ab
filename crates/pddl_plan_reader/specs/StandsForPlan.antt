-- For which text a reader of plans stands. Own.
use Rattle.std.specs.Prelude.{◌≡◌, ℕ, true, false, List, ◌++◌}
use Rattle.pddl_token.specs.Spelling.{PlacedWord}
use Rattle.pddl_text.specs.StandsFor.{StandsFor}
use Rattle.pddl_plan_reader.specs.declared.plan_reader.PlanReader.{PlanReader}
use Rattle.pddl_step_reader.specs.Inner.StepWords.{ReadsTo}

-- the pieces make the text: words of whole steps, those that are kept, and what the lexer holds back
pub record StandsForPlan {A : _} (reader : PlanReader A) (text : List ℕ) : Type 0 where
  pub done : List PlacedWord
  pub going : reader.failed ≡ false
  pub lexed : StandsFor reader.lexer text (done ++ reader.kept)
  pub reads : ReadsTo reader.place reader.plan done reader.kept

-- a piece was refused
abbrev pub HasRefused : {A : _} → PlanReader A → Type 0
HasRefused reader = reader.failed ≡ true
