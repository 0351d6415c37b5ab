use Rattle.std.proofs.Common.{ap, sym, ◌∙◌}
use Rattle.std.specs.Prelude.{codes}
use Rattle.pddl_items.specs.ItemTrees.{item_tree}
use Rattle.pddl_items.specs.Inner.TreeReading.{is_word_at}
use Rattle.pddl_sections.specs.Inner.Answers.{title_at}
use Rattle.pddl_sections.proofs.Heads.{rest_is, no_title, some_title}
use Rattle.pddl_sections.proofs.head.opening_of.Goals as goal

pub returns-in_default-2 : goal.returns-in_default-2
returns-in_default-2 g c =
    let word = c.args.word.now in
    no_title word c.args.items.now c.first-item.result c.title-item.result c.in-len2-up.len_at_least
    (sym (c.if-not-is_word_item.ensures ∙ ap (λ item. is_word_at (codes "define") (item_tree item)) c.first-item.is))
    (sym (sym c.in_default-2.is ∙ c.in_ok-name.ensures ∙ ap (λ item. title_at word (item_tree item)) c.title-item.is))

pub returns : goal.returns
returns g c =
    let word = c.args.word.now in
    some_title word c.args.items.now c.first-item.result c.title-item.result c.in-Some.name _ c.in-len2-up.len_at_least
    (sym (c.if-not-is_word_item.ensures ∙ ap (λ item. is_word_at (codes "define") (item_tree item)) c.first-item.is))
    (sym (sym c.in-Some.is ∙ c.in_ok-name.ensures ∙ ap (λ item. title_at word (item_tree item)) c.title-item.is))
    (rest_is 2 c.args.items.now)
