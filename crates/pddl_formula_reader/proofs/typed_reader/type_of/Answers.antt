use Rattle.std.proofs.Common.{[], ◌∷◌, ap, ◌∙◌}
use Rattle.std.specs.Prelude.{option_map}
use Rattle.pddl_token.specs.Spelling.{view}
use Rattle.pddl_token.specs.Trees.{unplaced}
use Rattle.pddl_formula_reader.specs.Inner.Reading.{type_name_at}
use Rattle.pddl_formula_reader.proofs.Fills.{of_known}
use Rattle.pddl_items.specs.ItemTrees.{item_tree, item_trees}
use Rattle.pddl_items.proofs.TreeLists.{item_tree_list, item_tree_word}
use Rattle.pddl_formula_reader.proofs.Turns.{type_at_list, type_at_word}
use Rattle.pddl_formula_reader.proofs.typed_reader.type_of.Goals as goal

pub returns-in-List : goal.returns-in-List
returns-in-List g c =
    rw (c.in-List.is, item_tree_list c.in-List.items c.in-List.field-1, type_at_list (item_trees c.in-List.items.items), ← c.deref.ensures.value) c.either_of.ensures

pub returns-in-Word : goal.returns-in-Word
returns-in-Word g c =
    let t = item_tree c.args.item.now in
    rw (type_at_word t (unplaced (view c.in-Word.field-0)) (ap item_tree c.in-Word.is ∙ item_tree_word _ c.in-Word.field-0))
    (of_known (option_map (λ n. n ∷ [])) c.type_name_of.result c.single.result (type_name_at t) c.type_name_of.ensures c.single.ensures)
