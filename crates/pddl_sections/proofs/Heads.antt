-- The head of a file, in the words of the code.
use Rattle.std.proofs.Common.{◌≡◌, ℕ, ◌<◌, ◌≤◌, true, List, [], ◌∷◌, length, get_or, drop, take, ◌-◌, Vec, Option, Some, None, refl, sym, ap, ◌∙◌, arith}
use Rattle.std.specs.Prelude.{codes}
use Rattle.std.proofs.lemmas.List.{take_all, length-drop}
use Rattle.pddl_token.specs.declared.token.Span.{Span}
use Rattle.pddl_items.specs.declared.item.Item.{Item}
use Rattle.pddl_items.specs.declared.item.Item.TheVariants.{List as Group}
use Rattle.pddl_token.specs.Trees.{Placed}
use Rattle.pddl_items.specs.Items.{item_view, items_view, span_of}
use Rattle.pddl_items.specs.ItemTrees.{item_tree, item_trees}
use Rattle.pddl_items.specs.Inner.TreeReading.{is_word_at, name_at}
use Rattle.pddl_items.proofs.TreeLists.{list_of_trees_of, item_tree_list, item_view_list, items_back}
use Rattle.pddl_sections.specs.Files.{IsOpened, HeadFault, nothing, other, several}
use Rattle.pddl_sections.specs.Inner.Answers.{title_of, title_at, opening_of, opening_at}
use Rattle.pddl_sections.proofs.FileLaws.{opens_sound, no_opening}

-- ---- lists of items

pub title_list : {A : Type 0} (word : List ℕ) (inner : Vec (Item A) A) (span : Span) → title_of word (item_trees inner.items) ≡ title_at word (item_tree (Group inner span))
title_list word inner span = sym (ap (title_at word) (item_tree_list inner span) ∙ ap (title_of word) (list_of_trees_of (item_trees inner.items)))

pub opening_list : {A : Type 0} (word : List ℕ) (inner : Vec (Item A) A) (span : Span) → opening_of word (items_view inner.items) ≡ opening_at word (item_view (Group inner span))
opening_list word inner span = sym (ap (opening_at word) (item_view_list inner span) ∙ ap (opening_of word) (items_back (items_view inner.items)))

-- ---- the first items

-- the rest of a list, as the code holds it
pub rest_is : {A : Type 0} (n : ℕ) (xs : List A) → take (length xs - n) (drop n xs) ≡ drop n xs
rest_is n xs = take_all (length xs - n) (drop n xs) (omega (arith, length-drop n xs))

module _ {A : Type 0} (word : List ℕ) where
  pub title_two : (xs : List (Item A)) (d e : Item A) → 2 ≤ length xs → length xs < 3 → is_word_at word (item_tree (get_or xs 0 d)) ≡ true
      → name_at (item_tree (get_or xs 1 e)) ≡ title_of word (item_trees xs)
  title_two [] d e le lt is = absurd (omega (arith, le))
  title_two (x ∷ []) d e le lt is = absurd (omega (arith, le))
  title_two (x ∷ y ∷ []) d e le lt is = rw is refl
  title_two (x ∷ y ∷ z ∷ zs) d e le lt is = absurd (omega (arith, lt))

  pub no_title : (xs : List (Item A)) (d e : Item A) → 2 ≤ length xs → is_word_at (codes "define") (item_tree (get_or xs 0 d)) ≡ true
      → title_at word (item_tree (get_or xs 1 e)) ≡ None → None ≡ opening_of word (items_view xs)
  no_title [] d e le is none = absurd (omega (arith, le))
  no_title (x ∷ []) d e le is none = absurd (omega (arith, le))
  no_title (x ∷ y ∷ zs) d e le is none = rw (is, none) refl

  pub some_title : (xs : List (Item A)) (d e : Item A) (name : List ℕ) (sections : List (Item A)) → 2 ≤ length xs
      → is_word_at (codes "define") (item_tree (get_or xs 0 d)) ≡ true → title_at word (item_tree (get_or xs 1 e)) ≡ Some name → sections ≡ drop 2 xs
      → ◌≡◌ {A = Option (List ℕ × List Placed)} (Some (name, items_view sections)) (opening_of word (items_view xs))
  some_title [] d e name sections le is some rest = absurd (omega (arith, le))
  some_title (x ∷ []) d e name sections le is some rest = absurd (omega (arith, le))
  some_title (x ∷ y ∷ zs) d e name sections le is some rest = rw (is, some, rest) refl

  pub no_item : (xs : List (Item A)) → length xs < 1 → HeadFault word (items_view xs) (record { start = 0; end = 0 })
  no_item [] lt = nothing refl refl
  no_item (x ∷ xs) lt = absurd (omega (arith, lt))

  pub other_item : (xs : List (Item A)) (d : Item A) (span : Span) → 1 ≤ length xs → opening_at word (item_view (get_or xs 0 d)) ≡ None
      → span ≡ span_of (item_view (get_or xs 0 d)) → HeadFault word (items_view xs) span
  other_item [] d span le none is = absurd (omega (arith, le))
  other_item (x ∷ xs) d span le none is = other (item_view x) (items_view xs) refl (no_opening word (item_view x) none) is

  pub one_item : (xs : List (Item A)) (d : Item A) (o : List ℕ × List Placed) → 1 ≤ length xs → length xs < 2
      → opening_at word (item_view (get_or xs 0 d)) ≡ Some o → IsOpened word o.0 o.1 (items_view xs)
  one_item [] d o le lt some = absurd (omega (arith, le))
  one_item (x ∷ []) d o le lt some = record { file = item_view x; only = refl; opens = opens_sound word (item_view x) o some }
  one_item (x ∷ y ∷ ys) d o le lt some = absurd (omega (arith, lt))

  pub second_item : (xs rest : List (Item A)) (d e : Item A) (o : List ℕ × List Placed) (span : Span) → 2 ≤ length xs
      → opening_at word (item_view (get_or xs 0 d)) ≡ Some o → rest ≡ drop 1 xs → span ≡ span_of (item_view (get_or rest 0 e)) → HeadFault word (items_view xs) span
  second_item [] rest d e o span le some behind is = absurd (omega (arith, le))
  second_item (x ∷ []) rest d e o span le some behind is = absurd (omega (arith, le))
  second_item (x ∷ y ∷ ys) rest d e o span le some behind is =
      several (item_view x) (item_view y) (items_view ys) refl (o.0, o.1, opens_sound word (item_view x) o some)
      (is ∙ ap (λ items. span_of (item_view (get_or items 0 e))) behind)
