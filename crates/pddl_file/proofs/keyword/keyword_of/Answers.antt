use Rattle.std.proofs.Common.{sym, ap, ◌∙◌}
use Rattle.pddl_items.specs.ItemTrees.{item_tree, item_trees}
use Rattle.pddl_file.specs.Inner.WordReading.{list_key, key_at}
use Rattle.pddl_file.proofs.WordTurns.{key_of_list, key_tells}
use Rattle.pddl_file.proofs.keyword.keyword_of.Goals as goal

pub returns-in-List-clause-reads : goal.returns-in-List-clause-reads
returns-in-List-clause-reads g c =
    c.list_keyword.ensures ∙ ap (λ xs. list_key (item_trees xs)) c.deref.ensures.value ∙ key_of_list c.in-List.items c.in-List.field-1
    ∙ ap (λ item. key_at (item_tree item)) (sym c.in-List.is)

pub returns-in-List-clause-tells : goal.returns-in-List-clause-tells
returns-in-List-clause-tells g c = key_tells (item_tree c.args.item.now) c.list_keyword.result (returns-in-List-clause-reads g c)
