use Rattle.pddl_items.specs.ItemTrees.{item_trees}
use Rattle.pddl_items.proofs.TreeLists.{item_tree_list}
use Rattle.pddl_effect_reader.proofs.IncreaseTestLaws.{cost_of_list}
use Rattle.pddl_effect_reader.proofs.increase.is_cost.Goals as goal

pub returns-in-List : goal.returns-in-List
returns-in-List g c =
    rw (c.in-List.is, item_tree_list c.in-List.items c.in-List.field-1, cost_of_list (item_trees c.in-List.items.items), ← c.deref.ensures.value) c.is_cost_list.ensures
