-- Trees of words: what items are, without places and with them.
use Rattle.std.specs.Prelude.{List, [], ◌∷◌}
use Rattle.pddl_token.specs.declared.token.Span.{Span}
use Rattle.pddl_token.specs.Spelling.{Word, PlacedWord}

-- a word, or a list of trees
mutual
  pub data Tree : Type 0 where
    leaf : Word → Tree
    node : Trees → Tree

  pub data Trees : Type 0 where
    no_trees : Trees
    tree : Tree → Trees → Trees

-- a list of trees as the children of a node, and back
abbrev pub trees_of : List Tree → Trees
trees_of [] = no_trees
trees_of (t ∷ ts) = tree t (trees_of ts)

abbrev pub list_of : Trees → List Tree
list_of no_trees = []
list_of (tree t ts) = t ∷ list_of ts

-- the same with places: a word at its place, or a list at its span
mutual
  pub data Placed : Type 0 where
    placed_leaf : PlacedWord → Placed
    placed_node : Span → PlacedList → Placed

  pub data PlacedList : Type 0 where
    no_placed : PlacedList
    placed_tree : Placed → PlacedList → PlacedList

-- a list of placed trees as the children of a node
abbrev pub placed_of : List Placed → PlacedList
placed_of [] = no_placed
placed_of (t ∷ ts) = placed_tree t (placed_of ts)

-- the word without its place
abbrev pub unplaced : PlacedWord → Word
unplaced w = record { kind = w.kind; text = w.text }

-- the tree without its places
abbrev mutual
  pub erased : Placed → Tree
  erased (placed_leaf w) = leaf (unplaced w)
  erased (placed_node span ts) = node (all_erased ts)

  pub all_erased : PlacedList → Trees
  all_erased no_placed = no_trees
  all_erased (placed_tree t ts) = tree (erased t) (all_erased ts)
