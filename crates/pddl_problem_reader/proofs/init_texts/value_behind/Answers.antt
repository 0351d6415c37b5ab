use Rattle.std.proofs.Common.{[], ◌∷◌, ◌++◌}
use Rattle.pddl_problem.specs.Inits.{function_view}
use Rattle.pddl_problem_reader.proofs.InitTexts.{value_read}
use Rattle.pddl_problem_reader.proofs.init_texts.value_behind.Goals as goal

pub returns-clause-value : goal.returns-clause-value
returns-clause-value g c = λ words opening is_open lexed.
    let (sign, is_sign, signed) = c.in_ok-sign_behind.ensures.sign (words ++ opening ∷ []) lexed in
    let before = (words ++ opening ∷ []) ++ sign ∷ [] in
    let read = c.in_ok-function.ensures.function before signed 124 in
    let (number, spells, numbered) = c.in-Some.ensures.next (before ++ read.more) read.lexed in
    let (closing, is_close, behind) = c.in_ok-sign_behind-2.ensures.sign ((before ++ read.more) ++ number ∷ []) numbered in
    value_read c.args.text.now words c.function_behind.new.at c.sign_behind-2.new.at opening sign number closing (function_view c.in_ok-function.function) c.in-Some.number is_open is_sign is_close spells read behind
