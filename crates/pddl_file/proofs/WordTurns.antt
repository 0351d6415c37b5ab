-- Keywords of sections and refused lists, in the words of the code.
use Rattle.std.proofs.Common.{◌≡◌, ℕ, ◌≤◌, Bool, true, false, List, [], ◌∷◌, length, get_or, drop, Vec, Option, Some, None, refl, sym, ap, ◌∙◌, subst, arith, codes}
use Rattle.std.specs.Bool.{then_some}
use Rattle.std.specs.Prelude.{IsTrue, MatchOption, ◌↔◌, flat_map, not, if◌then◌else◌}
use Rattle.pddl_token.specs.declared.token.Span.{Span}
use Rattle.pddl_token.specs.declared.token.TokenKind.{TokenKind}
use Rattle.pddl_token.specs.declared.token.TokenKind.TheVariants.{Open, Close, Name, Variable, Keyword, Number, Dash, Equal, Colon, Bracket, Compare, Arithmetic}
use Rattle.pddl_items.specs.declared.item.Item.{Item}
use Rattle.pddl_items.specs.declared.item.Item.TheVariants.{List as Group, Word as Leaf}
use Rattle.pddl_token.specs.declared.token.Token.{Token}
use Rattle.pddl_token.specs.Spelling.{view}
use Rattle.pddl_token.specs.Trees.{Tree, leaf, unplaced}
use Rattle.pddl_items.specs.Items.{item_view, items_view}
use Rattle.pddl_token.specs.Names.{folded}
use Rattle.pddl_token.specs.TreeWords.{list, IsWord}
use Rattle.pddl_items.specs.ItemTrees.{item_tree, item_trees}
use Rattle.pddl_items.specs.Inner.TreeReading.{is_word_at, word_by}
use Rattle.pddl_items.proofs.Readers.{word_sound}
use Rattle.pddl_items.proofs.TreeLists.{list_of_trees_of, item_tree_list, item_tree_word}
use Rattle.pddl_effect.specs.Effects.{AmountValue, IsIncrease}
use Rattle.pddl_effect_reader.specs.Inner.EffectReading.{increase_of}
use Rattle.pddl_effect_reader.proofs.AmountLaws.{increase_sound}
use Rattle.pddl_sections.specs.Sections.{lists_in}
use Rattle.pddl_sections.specs.Inner.Verdicts.{mark_or, first_mark}
use Rattle.pddl_sections.proofs.Turns.{lists_from, mark_list}
use Rattle.pddl_file.specs.Keywords.{IsHeaded}
use Rattle.pddl_file.specs.Inner.WordReading.{list_key, key_at, plain_mark, is_number_first, unless_increase, name_mark_by, or_else, list_mark, mark_in}
use Rattle.pddl_file.specs.declared.keyword.SectionKeyword.{SectionKeyword}
use Rattle.pddl_file.specs.declared.mark.Mark.{Mark}
use Rattle.pddl_file.specs.declared.mark.Mark.TheVariants as marks
use Rattle.pddl_file.proofs.KeywordLaws.{key_reads}
use Rattle.pddl_file.proofs.MarkLaws.{increase_is}

-- ---- keywords

-- a list's keyword is that of its items
pub key_of_list : {A : Type 0} (inner : Vec (Item A) A) (span : Span) → list_key (item_trees inner.items) ≡ key_at (item_tree (Group inner span))
key_of_list inner span = sym (ap key_at (item_tree_list inner span) ∙ ap list_key (list_of_trees_of (item_trees inner.items)))

-- the keyword that is read is the one that a section begins with
pub key_tells : (t : Tree) (found : Option SectionKeyword) → found ≡ key_at t
    → MatchOption found ((key : SectionKeyword) → IsHeaded key t → ⊥) (λ key. IsHeaded key t)
key_tells t None e = λ key headed. let some = key_reads.complete t key headed in cc
key_tells t (Some k) e = key_reads.sound t k (sym e)

-- ---- refused lists

module _ {A : Type 0} (in_types : Bool) (inner : Vec (Item A) A) (span : Span) where
  -- the first refused list in a list is the list itself, or the first in its items
  first_in_list : first_mark (mark_in in_types) (lists_in (item_view (Group inner span)))
      ≡ mark_or (list_mark in_types (item_trees inner.items)) span (first_mark (mark_in in_types) (lists_from inner.items 0))
  first_in_list =
      mark_list (mark_in in_types) inner span
      ∙ ap (λ ts. mark_or (list_mark in_types ts) span (first_mark (mark_in in_types) (lists_from inner.items 0))) (list_of_trees_of (item_trees inner.items))

  -- the list itself is refused
  pub list_marked : (m : Mark) → Some m ≡ list_mark in_types (item_trees inner.items)
      → ◌≡◌ {A = Option (Mark × Span)} (Some (m, span)) (first_mark (mark_in in_types) (lists_in (item_view (Group inner span))))
  list_marked m e = sym (first_in_list ∙ ap (λ o. mark_or o span (first_mark (mark_in in_types) (lists_from inner.items 0))) (sym e))

  -- the list itself is not refused
  pub list_unmarked : None ≡ list_mark in_types (item_trees inner.items)
      → first_mark (mark_in in_types) (flat_map lists_in (items_view inner.items)) ≡ first_mark (mark_in in_types) (lists_in (item_view (Group inner span)))
  list_unmarked e = sym (first_in_list ∙ ap (λ o. mark_or o span (first_mark (mark_in in_types) (lists_from inner.items 0))) (sym e))

-- ---- the word that a list begins with

-- of a list that begins with `increase`
increase_mark : (is_one : Bool) (head : Tree) (ts : List Tree) → IsWord (codes "increase") head → (IsTrue is_one ↔ ((a : AmountValue) × IsIncrease a (list (head ∷ ts))))
    → then_some (not is_one) marks.Increase ≡ unless_increase (increase_of ts)
increase_mark is_one head ts word tells = by_value is_one (increase_of ts) refl tells
  where
    by_value : (b : Bool) (o : Option AmountValue) → increase_of ts ≡ o → (IsTrue b ↔ ((a : AmountValue) × IsIncrease a (list (head ∷ ts))))
        → then_some (not b) marks.Increase ≡ unless_increase o
    by_value true (Some a) e is = refl
    by_value true None e is = let (a, one) = is.0 refl in let some = increase_is head ts a one in absurd (cc)
    by_value false None e is = refl
    by_value false (Some a) e is = let yes = is.1 (a, increase_sound head ts a word e) in absurd (cc)

then_if : {X : Type 0} (b : Bool) (x : X) → then_some b x ≡ (if b then Some x else None)
then_if true x = refl
then_if false x = refl

-- the mark by the tests for `increase`, `either` and `at`
abbrev by_tests : Bool → List Tree → Bool → Bool → Bool → Option Mark
by_tests in_types ts increase either at =
    if increase then unless_increase (increase_of ts)
    else (if either then (if in_types then Some marks.Either else None)
    else (if at then (if is_number_first ts then Some marks.At else None)
    else None))

by_kind : (in_types : Bool) (ts : List Tree) (kind : TokenKind) (text : List ℕ) → name_mark_by kind in_types (folded text) ts
    ≡ by_tests in_types ts (word_by kind text (codes "increase")) (word_by kind text (codes "either")) (word_by kind text (codes "at"))
by_kind in_types ts Name text = refl
by_kind in_types ts Open text = refl
by_kind in_types ts Close text = refl
by_kind in_types ts Variable text = refl
by_kind in_types ts Keyword text = refl
by_kind in_types ts Number text = refl
by_kind in_types ts Dash text = refl
by_kind in_types ts Equal text = refl
by_kind in_types ts Colon text = refl
by_kind in_types ts Bracket text = refl
by_kind in_types ts Compare text = refl
by_kind in_types ts Arithmetic text = refl

first_tree : {A : Type 0} (xs : List (Item A)) (d : Item A) → 1 ≤ length xs → item_trees xs ≡ item_tree (get_or xs 0 d) ∷ item_trees (drop 1 xs)
first_tree [] d some = absurd (omega (arith, some))
first_tree (x ∷ xs) d some = refl

-- a list whose first item is a word, which is not refused wherever it stands first
module _ {A : Type 0} (in_types : Bool) (xs : List (Item A)) (head : Item A) (token : Token) (some : 1 ≤ length xs) (first : head ≡ get_or xs 0 head)
    (is_word : head ≡ Leaf token) (plain : None ≡ plain_mark (folded token.text.now)) where
  -- the trees behind it
  abbrev behind : List Tree
  behind = item_trees (drop 1 xs)

  trees_are : item_trees xs ≡ item_tree head ∷ behind
  trees_are = first_tree xs head some ∙ ap (λ item. item_tree item ∷ behind) (sym first)

  -- the mark by the word
  mark_is : (increase either at : Bool) → increase ≡ is_word_at (codes "increase") (item_tree head) → either ≡ is_word_at (codes "either") (item_tree head)
      → at ≡ is_word_at (codes "at") (item_tree head) → list_mark in_types (item_trees xs) ≡ by_tests in_types behind increase either at
  mark_is increase either at i e a =
      let w = unplaced (view token) in
      let leaf_is : item_tree head ≡ leaf w = ap item_tree is_word ∙ item_tree_word A token in
      let test : (word : List ℕ) (b : Bool) → b ≡ is_word_at word (item_tree head) → is_word_at word (leaf w) ≡ b = λ word b h. sym (h ∙ ap (is_word_at word) leaf_is) in
      ap (list_mark in_types) (trees_are ∙ ap (λ (t : Tree). t ∷ behind) leaf_is)
      ∙ ap (λ o. or_else o (name_mark_by w.kind in_types (folded w.text) behind)) (sym plain)
      ∙ by_kind in_types behind w.kind w.text
      ∙ ap (λ b. by_tests in_types behind b (is_word_at (codes "either") (leaf w)) (is_word_at (codes "at") (leaf w))) (test (codes "increase") increase i)
      ∙ ap (λ b. by_tests in_types behind increase b (is_word_at (codes "at") (leaf w))) (test (codes "either") either e)
      ∙ ap (λ b. by_tests in_types behind increase either b) (test (codes "at") at a)

  -- it is `increase`
  pub increase_first : (is_one : Bool) → true ≡ is_word_at (codes "increase") (item_tree head)
      → (IsTrue is_one ↔ ((a : AmountValue) × IsIncrease a (list (item_trees xs)))) → then_some (not is_one) marks.Increase ≡ list_mark in_types (item_trees xs)
  increase_first is_one i tells =
      increase_mark is_one (item_tree head) behind (word_sound (codes "increase") (item_tree head) (sym i))
      (subst (λ ts. IsTrue is_one ↔ ((a : AmountValue) × IsIncrease a (list ts))) trees_are tells)
      ∙ sym (mark_is true (is_word_at (codes "either") (item_tree head)) (is_word_at (codes "at") (item_tree head)) i refl refl)

  -- it is `either`
  pub either_first : false ≡ is_word_at (codes "increase") (item_tree head) → true ≡ is_word_at (codes "either") (item_tree head)
      → then_some in_types marks.Either ≡ list_mark in_types (item_trees xs)
  either_first i e = then_if in_types marks.Either ∙ sym (mark_is false true (is_word_at (codes "at") (item_tree head)) i e refl)

  -- it is `at`
  pub at_first : (is_timed : Bool) (rest : List (Item A)) → false ≡ is_word_at (codes "increase") (item_tree head) → false ≡ is_word_at (codes "either") (item_tree head)
      → true ≡ is_word_at (codes "at") (item_tree head) → is_timed ≡ is_number_first (item_trees rest) → rest ≡ drop 1 xs
      → then_some is_timed marks.At ≡ list_mark in_types (item_trees xs)
  at_first is_timed rest i e a timed is =
      then_if is_timed marks.At ∙ ap (λ (b : Bool). if b then Some marks.At else None) (timed ∙ ap (λ ys. is_number_first (item_trees ys)) is)
      ∙ sym (mark_is false false true i e a)

  -- it is none of these
  pub other_first : false ≡ is_word_at (codes "increase") (item_tree head) → false ≡ is_word_at (codes "either") (item_tree head)
      → false ≡ is_word_at (codes "at") (item_tree head) → None ≡ list_mark in_types (item_trees xs)
  other_first i e a = sym (mark_is false false false i e a)
