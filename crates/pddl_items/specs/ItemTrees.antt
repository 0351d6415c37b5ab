-- Items as trees without places.
use Rattle.std.specs.Prelude.{List, map}
use Rattle.pddl_items.specs.declared.item.Item.{Item}
use Rattle.pddl_token.specs.Trees.{Tree, erased}
use Rattle.pddl_items.specs.Items.{item_view}

-- an item as a tree
abbrev pub item_tree : {A : _} → Item A → Tree
item_tree item = erased (item_view item)

-- items as trees
abbrev pub item_trees : {A : _} → List (Item A) → List Tree
item_trees items = map item_tree items
