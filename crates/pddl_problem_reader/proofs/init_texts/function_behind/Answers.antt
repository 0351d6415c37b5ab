use Rattle.std.proofs.Common.{suc, [], ◌∷◌, ◌++◌, sym, subst}
use Rattle.pddl_scan.specs.Scanning.{LexedTo}
use Rattle.pddl_problem_reader.proofs.InitTexts.{bare_read, call_read}
use Rattle.pddl_problem_reader.proofs.init_texts.function_behind.Goals as goal

pub returns-in-Some-clause-function : goal.returns-in-Some-clause-function
returns-in-Some-clause-function g c = λ words lexed levels.
    bare_read c.args.text.now words (suc levels) c.next_name.new.at (record { name = c.in-Some.function; objects = c.none-objects.result }) c.none-objects.ensures
    (rw c.in-Some.is at (c.in_ok-function.ensures.next words lexed))

pub returns-clause-function : goal.returns-clause-function
returns-clause-function g c = λ words lexed levels.
    let here = subst (LexedTo c.args.text.now words) (sym (rw c.in_default.is at c.in_ok-function.ensures.moves)) lexed in
    let (opening, is_open, opened) = c.in_ok-sign_behind.ensures.sign words here in
    let (head, spells, named) = c.in_ok-function-2.ensures.name (words ++ opening ∷ []) opened in
    call_read c.args.text.now words levels c.objects_behind.new.at opening head (record { name = c.in_ok-function-2.function; objects = c.in_ok-objects.objects }) is_open spells
    (c.in_ok-objects.ensures.objects ((words ++ opening ∷ []) ++ head ∷ []) named)
