-- One turn of the reading of sections, and of the search for a list that is refused by name, in the words of the code.
use Rattle.std.proofs.Common.{◌≡◌, ℕ, ◌+◌, ◌<◌, ◌≤◌, true, false, List, [], ◌∷◌, ◌++◌, length, get_or, drop, Vec, Option, Some, None, refl, sym, ap, ◌∙◌}
use Rattle.std.specs.Prelude.{flat_map}
use Rattle.std.proofs.lemmas.List.{drop_all}
use Rattle.pddl_token.specs.declared.token.Span.{Span}
use Rattle.pddl_token.specs.declared.token.Token.{Token}
use Rattle.pddl_items.specs.declared.item.Item.{Item}
use Rattle.pddl_items.specs.declared.item.Item.TheVariants.{List as Group, Word}
use Rattle.pddl_token.specs.Trees.{Tree, Placed, placed_of, trees_of, erased, all_erased}
use Rattle.pddl_items.specs.Items.{item_view, items_view, span_of}
use Rattle.pddl_token.specs.TreeWords.{list}
use Rattle.pddl_items.specs.ItemTrees.{item_tree, item_trees}
use Rattle.pddl_items.proofs.TreeLists.{all_erased_list, items_erased, item_view_list, item_view_word, view_from}
use Rattle.pddl_sections.specs.Sections.{SectionFault, twice, lists_in, lists_in_all}
use Rattle.pddl_sections.specs.Inner.Verdicts.{Readers, Verdict, fine, bad, stop, go, key_turn, turn, after_turn, refused, verdict, first_mark, mark_or}

-- ---- the trees of items

-- the children of a list's placed view are the trees of its items
pub children_erased : {A : Type 0} (items : List (Item A)) → all_erased (placed_of (items_view items)) ≡ trees_of (item_trees items)
children_erased items = all_erased_list (items_view items) ∙ ap trees_of (items_erased items)

-- ---- lists that are refused by name

-- the first answer of two
abbrev pub or_else : {A : Type 0} → Option A → Option A → Option A
or_else None p = p
or_else (Some x) p = Some x

mark_or_else : {W : Type 0} (o : Option W) (s : Span) (p q : Option (W × Span)) → mark_or o s (or_else p q) ≡ or_else (mark_or o s p) q
mark_or_else None s p q = refl
mark_or_else (Some w) s p q = refl

pub first_mark_append : {W : Type 0} (mark : Tree → Option W) (xs ys : List Placed) → first_mark mark (xs ++ ys) ≡ or_else (first_mark mark xs) (first_mark mark ys)
first_mark_append mark [] ys = refl
first_mark_append mark (x ∷ xs) ys =
    ap (mark_or (mark (erased x)) (span_of x)) (first_mark_append mark xs ys) ∙ mark_or_else (mark (erased x)) (span_of x) (first_mark mark xs) (first_mark mark ys)

pub lists_in_placed : (ps : List Placed) → lists_in_all (placed_of ps) ≡ flat_map lists_in ps
lists_in_placed [] = refl
lists_in_placed (p ∷ ps) = ap (λ (qs : List Placed). lists_in p ++ qs) (lists_in_placed ps)

-- the lists in the items from a place on
abbrev pub lists_from : {A : Type 0} → List (Item A) → ℕ → List Placed
lists_from xs i = flat_map lists_in (items_view (drop i xs))

-- a word has no list in it
pub mark_word : {W : Type 0} (mark : Tree → Option W) (A : Type 0) (token : Token) → first_mark mark (lists_in (item_view {A = A} (Word token))) ≡ None
mark_word mark A token = ap (λ p. first_mark mark (lists_in p)) (item_view_word A token)

module _ {A W : Type 0} (mark : Tree → Option W) where
  -- the first in a list is the list itself, or the first in its items
  pub mark_list : (inner : Vec (Item A) A) (span : Span) → first_mark mark (lists_in (item_view (Group inner span)))
      ≡ mark_or (mark (list (item_trees inner.items))) span (first_mark mark (lists_from inner.items 0))
  mark_list inner span =
      ap (λ p. first_mark mark (lists_in p)) (item_view_list inner span)
      ∙ ap (λ ts. mark_or (mark (Tree.node ts)) span (first_mark mark (lists_in_all (placed_of (items_view inner.items))))) (children_erased inner.items)
      ∙ ap (λ ls. mark_or (mark (list (item_trees inner.items))) span (first_mark mark ls)) (lists_in_placed (items_view inner.items))

  module _ (xs : List (Item A)) (i : ℕ) where
    -- there is none behind the last item
    pub mark_end : length xs ≤ i → first_mark mark (lists_from xs i) ≡ None
    mark_end h = ap (λ ys. first_mark mark (flat_map lists_in (items_view ys))) (drop_all i xs h)

    module _ (d : Item A) (below : i < length xs) where
      -- the first from an item on is the first in it, or the first behind it
      pub mark_more : first_mark mark (lists_from xs i) ≡ or_else (first_mark mark (lists_in (item_view (get_or xs i d)))) (first_mark mark (lists_from xs (i + 1)))
      mark_more =
          ap (λ ps. first_mark mark (flat_map lists_in ps)) (view_from xs i d below)
          ∙ first_mark_append mark (lists_in (item_view (get_or xs i d))) (lists_from xs (i + 1))

      module _ (whole : Option (W × Span)) where
        -- it stands in this item
        pub mark_here : (m : W × Span) → Some m ≡ first_mark mark (lists_in (item_view (get_or xs i d))) → first_mark mark (lists_from xs i) ≡ whole → Some m ≡ whole
        mark_here m e so_far = sym (mark_more ∙ ap (λ o. or_else o (first_mark mark (lists_from xs (i + 1)))) (sym e)) ∙ so_far

        -- none stands in this item
        pub mark_later : None ≡ first_mark mark (lists_in (item_view (get_or xs i d))) → first_mark mark (lists_from xs i) ≡ whole → first_mark mark (lists_from xs (i + 1)) ≡ whole
        mark_later e so_far = sym (mark_more ∙ ap (λ o. or_else o (first_mark mark (lists_from xs (i + 1)))) (sym e)) ∙ so_far

-- ---- one section after the other

-- behind a section that fits the verdict is that of all
pub verdict_on : {P K W S : Type 0} (readers : Readers P K W S) (seen : S) (found : List P) (p : Placed) (rest : List Placed) (whole : Verdict P K W S) → verdict readers seen found (p ∷ rest) ≡ whole
    → (x : P) (k : K) → turn readers seen p ≡ go x k → verdict readers (readers.with_seen seen k) (found ++ x ∷ []) rest ≡ whole
unfolding verdict
verdict_on readers seen found p rest whole so_far x k e = sym (ap (λ t. after_turn readers t (λ y l. verdict readers (readers.with_seen seen l) (found ++ y ∷ []) rest)) e) ∙ so_far

module _ {A P K W S : Type 0} (readers : Readers P K W S) where
  -- no section is left
  pub verdict_end : (seen : S) (found : List P) (xs : List (Item A)) (i : ℕ) → length xs ≤ i → verdict readers seen found (items_view (drop i xs)) ≡ fine seen found
  unfolding verdict
  verdict_end seen found xs i h = ap (λ ys. verdict readers seen found (items_view ys)) (drop_all i xs h)

  module _ (seen : S) (found : List P) (xs : List (Item A)) (i : ℕ) (d : Item A) (whole : Verdict P K W S) (below : i < length xs) where
    -- the verdict behind this section
    abbrev Next : P → K → Verdict P K W S
    Next x k = verdict readers (readers.with_seen seen k) (found ++ x ∷ []) (items_view (drop (i + 1) xs))

    verdict_more : verdict readers seen found (items_view (drop i xs)) ≡ after_turn readers (turn readers seen (item_view (get_or xs i d))) Next
    unfolding verdict
    verdict_more = ap (verdict readers seen found) (view_from xs i d below)

    -- this section is faulty
    pub verdict_stop : (f : SectionFault K W) → turn readers seen (item_view (get_or xs i d)) ≡ stop f → verdict readers seen found (items_view (drop i xs)) ≡ whole
        → whole ≡ bad f
    verdict_stop f e so_far = sym so_far ∙ verdict_more ∙ ap (λ t. after_turn readers t Next) e

  module _ (seen : S) (item : Item A) where
    -- a section without a keyword
    pub no_key_turn : None ≡ readers.key_at (item_tree item) → turn readers seen (item_view item) ≡ stop (refused readers (item_view item))
    no_key_turn e = ap (λ o. key_turn readers o seen (readers.part_at (item_tree item)) (item_view item)) (sym e)

    module _ (k : K) (key : Some k ≡ readers.key_at (item_tree item)) where
      keyed_turn : turn readers seen (item_view item) ≡ key_turn readers (Some k) seen (readers.part_at (item_tree item)) (item_view item)
      keyed_turn = ap (λ o. key_turn readers o seen (readers.part_at (item_tree item)) (item_view item)) (sym key)

      -- its keyword was seen
      pub twice_turn : readers.has_seen seen k ≡ true → turn readers seen (item_view item) ≡ stop (twice k (span_of (item_view item)))
      twice_turn e = keyed_turn ∙ rw e refl

      -- it spells no value
      pub unfit_turn : readers.has_seen seen k ≡ false → readers.part_at (item_tree item) ≡ None → turn readers seen (item_view item) ≡ stop (refused readers (item_view item))
      unfit_turn e none = keyed_turn ∙ rw (e, none) refl

      -- it fits
      pub fit_turn : (x : P) → readers.has_seen seen k ≡ false → readers.part_at (item_tree item) ≡ Some x → turn readers seen (item_view item) ≡ go x k
      fit_turn x e some = keyed_turn ∙ rw (e, some) refl
