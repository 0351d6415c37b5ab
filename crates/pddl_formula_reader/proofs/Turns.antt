-- Items as the code goes over them, and values read from each.
use Rattle.std.proofs.Common.{◌≡◌, ℕ, ◌+◌, ◌-◌, ◌<◌, ◌≤◌, List, [], ◌∷◌, ◌++◌, length, get_or, take, drop, map, refl, sym, ap, ◌∙◌, arith, add-one, drop-cons}
use Rattle.std.specs.Prelude.{Option, Some, None, option_map, option_and_then, if◌then◌else◌, codes}
use Rattle.std.proofs.lemmas.List.{append-nil, drop_all, take_all}
use Rattle.pddl_items.specs.declared.item.Item.{Item}
use Rattle.pddl_token.specs.Spelling.{Word}
use Rattle.pddl_token.specs.Trees.{Tree, leaf}
use Rattle.pddl_token.specs.TreeWords.{list}
use Rattle.pddl_items.specs.ItemTrees.{item_tree, item_trees}
use Rattle.pddl_items.specs.Inner.TreeReading.{both, all_of, is_word_at}
use Rattle.pddl_items.proofs.Fronts.{with_front, front_more}
use Rattle.pddl_items.proofs.TreeLists.{list_of_trees_of}
use Rattle.pddl_formula.specs.Reserved.{type_of}
use Rattle.pddl_formula_reader.specs.Inner.Reading.{atom_at, atom_of, atom_of_list, type_at, type_name_at, either_of, variables_at, typed_variables}

-- the items from a place on: the one there, and those behind it
pub trees_from : {A : Type 0} (xs : List (Item A)) (i : ℕ) (d : Item A) → i < length xs → item_trees (drop i xs) ≡ item_tree (get_or xs i d) ∷ item_trees (drop (i + 1) xs)
trees_from xs i d below = rw (add-one, drop-cons xs i d) refl

pub trees_end : {A : Type 0} (xs : List (Item A)) (i : ℕ) → length xs ≤ i → item_trees (drop i xs) ≡ []
trees_end xs i past = ap item_trees (drop_all i xs past)

-- what was computed of an item is so of the one at its place
pub there : {A Y : Type 0} (f : Item A → Y) (xs : List (Item A)) (i : ℕ) (item : Item A) (x y : Y) → item ≡ get_or xs i item → x ≡ f item → x ≡ y → f (get_or xs i item) ≡ y
there f xs i item x y is computed e = sym (ap f is) ∙ (sym computed ∙ e)

-- ---- a value of each item

module _ {A X : Type 0} (read : Tree → Option X) (xs : List (Item A)) (i : ℕ) (d : Item A) (front : List X) (whole : Option (List X)) (below : i < length xs) where
  -- what the items behind this one give
  abbrev rest : Option (List X)
  rest = all_of (map read (item_trees (drop (i + 1) xs)))

  pub each_on : (new : List X) (x : X) → with_front front (all_of (map read (item_trees (drop i xs)))) ≡ whole
      → Some x ≡ read (item_tree (get_or xs i d)) → new ≡ front ++ x ∷ []
      → with_front new (all_of (map read (item_trees (drop (i + 1) xs)))) ≡ whole
  each_on new x so_far found pushed =
      ap (λ n. with_front n rest) pushed ∙ front_more front x rest ∙ ap (λ o. with_front front (both o rest)) found
      ∙ ap (λ ts. with_front front (all_of (map read ts))) (sym (trees_from xs i d below)) ∙ so_far

  pub each_stop : with_front front (all_of (map read (item_trees (drop i xs)))) ≡ whole → None ≡ read (item_tree (get_or xs i d)) → None ≡ whole
  each_stop so_far missing =
      ap (λ o. with_front front (both o rest)) missing
      ∙ ap (λ ts. with_front front (all_of (map read ts))) (sym (trees_from xs i d below)) ∙ so_far

pub each_end : {A X : Type 0} (read : Tree → Option X) (xs : List (Item A)) (i : ℕ) (front : List X) (whole : Option (List X)) → length xs ≤ i
    → with_front front (all_of (map read (item_trees (drop i xs)))) ≡ whole → Some front ≡ whole
each_end read xs i front whole past so_far =
    ap Some (sym (append-nil front)) ∙ ap (λ ts. with_front front (all_of (map read ts))) (sym (trees_end xs i past)) ∙ so_far

-- ---- atoms

-- the atom of a list by its head and what stands behind it, as a call takes them
pub atom_by_head : {A : Type 0} (xs : List (Item A)) (h : Item A) → 0 < length xs → h ≡ get_or xs 0 h
    → atom_of_list (item_trees xs) ≡ atom_of (item_tree h) (item_trees (take (length xs - 1) (drop 1 xs)))
atom_by_head [] h some first = absurd (omega (arith, some))
atom_by_head (x ∷ xs) h some first = rw (take_all (length (x ∷ xs) - 1) xs (omega arith), first) refl

-- the type of a list by its head and what stands behind it, as a call takes them
pub either_by_head : {A : Type 0} (xs : List (Item A)) (h : Item A) → 0 < length xs → h ≡ get_or xs 0 h
    → either_of (item_trees xs) ≡ (if is_word_at (codes "either") (item_tree h) then option_and_then type_of (all_of (map type_name_at (item_trees (take (length xs - 1) (drop 1 xs))))) else None)
either_by_head [] h some first = absurd (omega (arith, some))
either_by_head (x ∷ xs) h some first = rw (take_all (length (x ∷ xs) - 1) xs (omega arith), first) refl

-- ---- what lists of trees are

pub atom_at_list : (ts : List Tree) → atom_at (list ts) ≡ atom_of_list ts
atom_at_list ts = ap atom_of_list (list_of_trees_of ts)

pub type_at_word : (t : Tree) (w : Word) → t ≡ leaf w → type_at t ≡ option_map (λ n. n ∷ []) (type_name_at t)
type_at_word t w is = rw is refl

pub type_at_list : (ts : List Tree) → type_at (list ts) ≡ either_of ts
type_at_list ts = ap either_of (list_of_trees_of ts)

pub variables_at_list : (ts : List Tree) → variables_at (list ts) ≡ typed_variables ts
variables_at_list ts = ap typed_variables (list_of_trees_of ts)
