use Rattle.std.proofs.Common.{◌≡◌, ℕ, List, ap, sym, subst, ◌∙◌, Option}
use Rattle.std.specs.Prelude.{IfOk}
use Rattle.pddl_items.specs.ItemTrees.{item_tree, item_trees}
use Rattle.pddl_sections.specs.Inner.Answers.{title_of, title_at}
use Rattle.pddl_sections.proofs.Heads.{title_list}
use Rattle.pddl_sections.proofs.head.title_at.Goals as goal

pub returns-in-List : goal.returns-in-List
returns-in-List g c =
    let word = c.args.word.now in
    subst (λ (found : Option (List ℕ)). IfOk c.title_of.result (λ name. name ≡ found))
    (ap (λ xs. title_of word (item_trees xs)) c.deref.ensures.value ∙ title_list word c.in-List.items c.in-List.field-1
    ∙ ap (λ item. title_at word (item_tree item)) (sym c.in-List.is))
    c.title_of.ensures
