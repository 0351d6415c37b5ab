use Rattle.std.proofs.Common.{[], ◌∷◌, ◌++◌}
use Rattle.pddl_problem.specs.Inits.{IsFact, fact_view}
use Rattle.pddl_problem_reader.proofs.InitTexts.{fact_item, failing_read}
use Rattle.pddl_problem_reader.proofs.init_texts.failing_behind.Goals as goal

pub returns-clause-failing : goal.returns-clause-failing
returns-clause-failing g c = λ words opening head is_open spells lexed.
    let text = c.args.text.now in
    let before = (words ++ opening ∷ []) ++ head ∷ [] in
    let (inner, is_inner, opened) = c.in_ok-sign_behind.ensures.sign before lexed in
    let (first, names, named) = c.in_ok-name.ensures.name (before ++ inner ∷ []) opened in
    let (predicate, objects) = c.in_ok-fact.ensures.fact ((before ++ inner ∷ []) ++ first ∷ []) named in
    let fact = fact_view c.in_ok-fact.fact in
    let read = fact_item (IsFact fact) text before 124 c.fact_behind.new.at inner first c.in_ok-name.name fact is_inner names predicate objects (λ t is. is) in
    let (closing, is_close, behind) = c.in_ok-sign_behind-2.ensures.sign (before ++ read.more) read.lexed in
    failing_read text words c.fact_behind.new.at c.sign_behind-2.new.at opening head closing fact is_open spells is_close read behind
