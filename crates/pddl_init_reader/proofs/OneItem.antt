-- What is read of lists of one item.
use Rattle.std.proofs.Common.{◌≡◌, ◌≤◌, ◌<◌, List, [], ◌∷◌, map, Option, length, get_or, refl, sym, ap, ◌∙◌, arith}
use Rattle.pddl_items.specs.declared.item.Item.{Item}
use Rattle.pddl_token.specs.Trees.{Tree}
use Rattle.pddl_items.specs.ItemTrees.{item_tree, item_trees}
use Rattle.pddl_formula_reader.specs.Inner.Reading.{only}

one_tree : {A : Type 0} (xs : List (Item A)) (d : Item A) → 1 ≤ length xs → length xs < 2 → item_trees xs ≡ item_tree (get_or xs 0 d) ∷ []
one_tree [] d low high = absurd (omega (arith, low))
one_tree (x ∷ []) d low high = refl
one_tree (x ∷ y ∷ xs) d low high = absurd (omega (arith, high))

-- the one item is read
pub one_read : {A Y : Type 0} (read : Tree → Option Y) (xs : List (Item A)) (x : Item A) → 1 ≤ length xs → length xs < 2 → x ≡ get_or xs 0 x → read (item_tree x) ≡ only (map read (item_trees xs))
one_read {A} read xs x low high is =
    let whole : item_trees xs ≡ item_tree x ∷ [] = one_tree xs x low high ∙ ap (λ (i : Item A). item_tree i ∷ []) (sym is) in
    sym (ap (λ (ts : List Tree). only (map read ts)) whole)
