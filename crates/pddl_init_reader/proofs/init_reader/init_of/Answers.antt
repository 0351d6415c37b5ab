use Rattle.pddl_items.specs.ItemTrees.{item_trees}
use Rattle.pddl_items.proofs.TreeLists.{item_tree_list}
use Rattle.pddl_init_reader.proofs.InitTurns.{init_at_list}
use Rattle.pddl_init_reader.proofs.init_reader.init_of.Goals as goal

pub returns-in-List : goal.returns-in-List
returns-in-List g c =
    rw (c.in-List.is, item_tree_list c.in-List.items c.in-List.field-1, init_at_list (item_trees c.in-List.items.items), ← c.deref.ensures.value) c.init_of_list.ensures
