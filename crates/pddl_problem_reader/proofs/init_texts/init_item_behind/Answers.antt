use Rattle.std.proofs.Common.{◌≡◌, [], ◌∷◌, ◌++◌, sym, subst, ◌∙◌, codes}
use Rattle.std.specs.Cmp.Lexicographic.{bytes_decides}
use Rattle.pddl_token.specs.Trees.{placed_leaf, erased}
use Rattle.pddl_token.specs.TreeWords.{SpellsName}
use Rattle.pddl_problem.specs.Inits.{IsInit, fact_view, holds}
use Rattle.pddl_problem_reader.proofs.InitTexts.{fact_item}
use Rattle.pddl_problem_reader.proofs.init_texts.init_item_behind.Goals as goal

pub returns-in-Some-clause-init : goal.returns-in-Some-clause-init
returns-in-Some-clause-init g c = λ words opening is_open lexed.
    let (head, spells, named) = rw c.in-Some.is at (c.in_ok-name.ensures.next (words ++ opening ∷ []) lexed) in
    let is_not : c.in-Some.name ≡ codes "not" = (bytes_decides c.in-Some.name (codes "not")).0 (rw (c.as_bytes.ensures.value, c.as_slice.ensures) at (sym c.eq.ensures ∙ c.if-eq.true)) in
    c.failing_behind.ensures.failing words opening head is_open (subst (λ n. SpellsName n (erased (placed_leaf head))) is_not spells) named

pub returns-in_ok-fact_behind-in-Some-2-clause-init : goal.returns-in_ok-fact_behind-in-Some-2-clause-init
returns-in_ok-fact_behind-in-Some-2-clause-init g c = λ words opening is_open lexed.
    let (head, spells, named) = rw c.in-Some.is at (c.in_ok-name.ensures.next (words ++ opening ∷ []) lexed) in
    let (predicate, objects) = c.in_ok-fact_behind-in-Some-2.ensures.fact ((words ++ opening ∷ []) ++ head ∷ []) named in
    let fact = fact_view c.in_ok-fact_behind-in-Some-2.field-0 in
    fact_item (IsInit (holds fact)) c.args.text.now words 125 c.fact_behind.new.at opening head c.in-Some.name fact is_open spells predicate objects (λ t is. is)
