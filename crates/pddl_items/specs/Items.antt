-- A source's items as trees with places.
use Rattle.std.specs.Prelude.{List, map}
use Rattle.pddl_token.specs.declared.token.Span.{Span}
use Rattle.pddl_items.specs.declared.item.Item.{Item}
use Rattle.pddl_items.specs.declared.item.Item.TheOpen.{Item-F}
use Rattle.pddl_items.specs.declared.item.Item.TheFolds.{fold-Item}
use Rattle.pddl_token.specs.Spelling.{view}
use Rattle.pddl_token.specs.Trees.{Placed, placed_leaf, placed_node, placed_of}

-- one level of an item, its own items seen already
abbrev pub item_step : {A : _} → Item-F A Placed → Placed
item_step (Item-F.Word token) = placed_leaf (view token)
item_step (Item-F.List inner span) = placed_node span (placed_of inner.items)

-- an item as a tree with places
abbrev pub item_view : {A : _} → Item A → Placed
item_view = fold-Item _ Placed item_step

-- items as trees with places
abbrev pub items_view : {A : _} → List (Item A) → List Placed
items_view items = map item_view items

-- from an item's first byte to its last
abbrev pub span_of : Placed → Span
span_of (placed_leaf w) = w.span
span_of (placed_node span items) = span
