use Rattle.std.proofs.Common.{◌≡◌, ℕ, List, ap, sym, subst, ◌∙◌, Option}
use Rattle.std.specs.Prelude.{IfOk}
use Rattle.pddl_items.specs.ItemTrees.{item_tree}
use Rattle.pddl_items.specs.Inner.TreeReading.{is_word_at, name_at}
use Rattle.pddl_sections.proofs.Heads.{title_two}
use Rattle.pddl_sections.proofs.head.title_of.Goals as goal

pub returns : goal.returns
returns g c =
    let word = c.args.word.now in
    let begins = sym (c.if-not-is_word_item.ensures ∙ ap (λ item. is_word_at word (item_tree item)) c.first-item.is) in
    subst (λ (found : Option (List ℕ)). IfOk c.name_of.result (λ name. name ≡ found))
    (ap (λ item. name_at (item_tree item)) c.second-item.is
    ∙ title_two word c.args.items.now c.first-item.result c.second-item.result c.in-len2.len_at_least c.in-len2.len_below begins)
    c.name_of.ensures
