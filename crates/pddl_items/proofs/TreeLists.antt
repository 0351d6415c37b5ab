-- Trees, and items as the code holds them, as lists.
use Rattle.std.proofs.Common.{◌≡◌, ℕ, ◌+◌, ◌<◌, List, [], ◌∷◌, map, length, get_or, drop, Vec, refl, sym, ap, ◌∙◌, add-one, drop-cons}
use Rattle.pddl_token.specs.declared.token.Span.{Span}
use Rattle.pddl_token.specs.declared.token.Token.{Token}
use Rattle.pddl_items.specs.declared.item.Item.{Item}
use Rattle.pddl_items.specs.declared.item.Item.TheOpen.{Item-F}
use Rattle.pddl_items.specs.declared.item.Item.TheVariants.{List as Group, Word, rolls-List, rolls-Word}
use Rattle.pddl_items.specs.declared.item.Item.TheFolds.{fold-roll-Item}
use Rattle.pddl_token.specs.Spelling.{view}
use Rattle.pddl_token.specs.Trees.{Tree, Trees, no_trees, tree, leaf, trees_of, list_of, Placed, placed_leaf, placed_node, placed_of, unplaced, erased, all_erased}
use Rattle.pddl_items.specs.Items.{item_step, item_view, items_view}
use Rattle.pddl_token.specs.TreeWords.{list}
use Rattle.pddl_items.specs.ItemTrees.{item_tree, item_trees}
use Rattle.pddl_items.specs.Inner.TreeReading.{placed_items}

-- the items from a place on: the one there, and those behind it
pub view_from : {A : Type 0} (xs : List (Item A)) (i : ℕ) (d : Item A) → i < length xs → items_view (drop i xs) ≡ item_view (get_or xs i d) ∷ items_view (drop (i + 1) xs)
view_from xs i d lt = rw (add-one, drop-cons xs i d) refl

pub item_view_list : {A : Type 0} (inner : Vec (Item A) A) (span : Span) → item_view (Group inner span) ≡ placed_node span (placed_of (items_view inner.items))
item_view_list inner span = ap item_view (sym (rolls-List inner span)) ∙ fold-roll-Item _ Placed item_step (Item-F.List inner span)

pub item_view_word : (A : Type 0) (token : Token) → item_view {A = A} (Word token) ≡ placed_leaf (view token)
item_view_word A token = ap (item_view {A = A}) (sym (rolls-Word token)) ∙ fold-roll-Item _ Placed item_step (Item-F.Word token)

pub items_back : (items : List Placed) → placed_items (placed_of items) ≡ items
items_back [] = refl
items_back (item ∷ items) = ap (λ (t : List Placed). item ∷ t) (items_back items)

pub list_of_trees_of : (ts : List Tree) → list_of (trees_of ts) ≡ ts
list_of_trees_of [] = refl
list_of_trees_of (t ∷ ts) = ap (λ (us : List Tree). t ∷ us) (list_of_trees_of ts)

pub trees_of_list_of : (ts : Trees) → trees_of (list_of ts) ≡ ts
trees_of_list_of no_trees = refl
trees_of_list_of (tree t ts) = ap (tree t) (trees_of_list_of ts)

pub all_erased_list : (items : List Placed) → all_erased (placed_of items) ≡ trees_of (map erased items)
all_erased_list [] = refl
all_erased_list (item ∷ items) = ap (tree (erased item)) (all_erased_list items)

-- items are the same trees, whether their places are seen or not
pub items_erased : {A : Type 0} (items : List (Item A)) → map erased (items_view items) ≡ item_trees items
items_erased [] = refl
items_erased (item ∷ items) = ap (λ (ts : List Tree). item_tree item ∷ ts) (items_erased items)

-- a list of items is the list of their trees
pub item_tree_list : {A : Type 0} (inner : Vec (Item A) A) (span : Span) → item_tree (Group inner span) ≡ list (item_trees inner.items)
item_tree_list inner span =
    ap erased (item_view_list inner span) ∙ (ap (λ ts. Tree.node ts) (all_erased_list (items_view inner.items)) ∙ ap list (items_erased inner.items))

pub item_tree_word : (A : Type 0) (token : Token) → item_tree {A = A} (Word token) ≡ leaf (unplaced (view token))
item_tree_word A token = ap erased (item_view_word A token)
