-- A tree's words list back to it.
use Rattle.std.proofs.Common.{◌≡◌, ◌≤◌, ℕ, zero, suc, List, [], ◌∷◌, ◌++◌, length, map, refl, sym, ap, subst, ◌∙◌, arith}
use Rattle.std.specs.Prelude.{◌≢◌}
use Rattle.std.proofs.lemmas.List.{append-nil}
use Rattle.pddl_token.specs.declared.token.TokenKind.TheVariants.{Open, Close}
use Rattle.pddl_token.specs.Spelling.{Word, PlacedWord, words_from}
use Rattle.pddl_token.specs.Trees.{Tree, leaf, node, Trees, no_trees, tree, list_of, Placed, placed_leaf, placed_node, placed_of, unplaced, erased, all_erased}
use Rattle.pddl_text.specs.Lists.{span_over, AreItems, none, plain, nested}
use Rattle.pddl_text.specs.Pieces.{Piece, tokens_of, pieces_text, AreWritten, opening_word, closing_word, tree_words, trees_words, IsWritable, AreWritable, IsWithin, AreWithin, tree_pieces, tree_text}
use Rattle.pddl_text.specs.Texts.{ReadsAs}
use Rattle.pddl_text.proofs.Nests.{items_append}
use Rattle.pddl_text.proofs.Written.{parts_of, unplaced_words, written_valued, written_spells, tree_written, tree_tokens}

-- ---- words by their spelling

-- the placed words of two runs of words
record Halves (words : List PlacedWord) (first second : List Word) : Type 0 where
  front : List PlacedWord
  back : List PlacedWord
  words_are : words ≡ front ++ back
  front_is : map unplaced front ≡ first
  back_is : map unplaced back ≡ second

-- words whose spellings are joined lists come in two halves
halves : (words : List PlacedWord) (first second : List Word) → map unplaced words ≡ first ++ second → Halves words first second
halves words [] second e = record { front = []; back = words; words_are = refl; front_is = refl; back_is = e }
halves [] (w ∷ first) second e = absurd (cc e)
halves (v ∷ words) (w ∷ first) second e =
    let tail : map unplaced words ≡ first ++ second = cc e in
    let head : unplaced v ≡ w = cc e in
    let rest = halves words first second tail in
    record {
      front = v ∷ rest.front;
      back = rest.back;
      words_are = ap (λ (t : List PlacedWord). v ∷ t) rest.words_are;
      front_is = ap (λ (x : Word). x ∷ map unplaced rest.front) head ∙ ap (λ (t : List Word). w ∷ t) rest.front_is;
      back_is = rest.back_is;
    }

-- words of one spelling are one word
record Single (words : List PlacedWord) (w : Word) : Type 0 where
  only : PlacedWord
  words_are : words ≡ only ∷ []
  only_is : unplaced only ≡ w

-- such words are one
single : (words : List PlacedWord) (w : Word) → map unplaced words ≡ w ∷ [] → Single words w
single [] w e = absurd (cc e)
single (v ∷ []) w e = record { only = v; words_are = refl; only_is = cc e }
single (v ∷ u ∷ words) w e = absurd (omega (arith, ap (λ (t : List Word). length t) e))

-- ---- items of a tree's words

-- the words form an item that is the tree
record ListsTo (levels : ℕ) (words : List PlacedWord) (t : Tree) : Type 0 where
  item : Placed
  form : AreItems levels words (item ∷ [])
  tree_is : erased item ≡ t

-- the words form items that are the trees
record ListAllTo (levels : ℕ) (words : List PlacedWord) (ts : Trees) : Type 0 where
  items : List Placed
  form : AreItems levels words items
  trees_are : all_erased (placed_of items) ≡ ts

-- a word forms a leaf
lists_leaf : (levels : ℕ) (words : List PlacedWord) (w : Word) → map unplaced words ≡ w ∷ [] → w.kind ≢ Open → w.kind ≢ Close → ListsTo levels words (leaf w)
lists_leaf levels words w e no_open no_close =
    let it = single words w e in
    let kind_is : it.only.kind ≡ w.kind = ap (λ (x : Word). x.kind) it.only_is in
    record {
      item = placed_leaf it.only;
      form = subst (λ (t : List PlacedWord). AreItems levels t (placed_leaf it.only ∷ [])) (sym it.words_are) (plain it.only (λ k. no_open (sym kind_is ∙ k)) (λ k. no_close (sym kind_is ∙ k)) none);
      tree_is = ap leaf it.only_is;
    }

-- parentheses round words form a node
lists_node : (levels : ℕ) (words : List PlacedWord) (ts : Trees) → map unplaced words ≡ opening_word ∷ (trees_words ts ++ closing_word ∷ []) → ((inner : List PlacedWord) → map unplaced inner ≡ trees_words ts → ListAllTo levels inner ts) → ListsTo (suc levels) words (node ts)
lists_node levels words ts e list_inner =
    let outer = halves words (opening_word ∷ []) (trees_words ts ++ closing_word ∷ []) e in
    let opening = single outer.front opening_word outer.front_is in
    let rest = halves outer.back (trees_words ts) (closing_word ∷ []) outer.back_is in
    let closing = single rest.back closing_word rest.back_is in
    let inner = list_inner rest.front rest.front_is in
    let words_are : words ≡ opening.only ∷ (rest.front ++ closing.only ∷ []) =
    outer.words_are ∙ ap (λ (t : List PlacedWord). t ++ outer.back) opening.words_are ∙ ap (λ (t : List PlacedWord). opening.only ∷ t) (rest.words_are ∙ ap (λ (t : List PlacedWord). rest.front ++ t) closing.words_are) in
    record {
      item = placed_node (span_over opening.only closing.only) (placed_of inner.items);
      form = nested opening.only closing.only rest.front [] inner.items [] (ap (λ (x : Word). x.kind) opening.only_is) (ap (λ (x : Word). x.kind) closing.only_is) inner.form none words_are refl;
      tree_is = ap node inner.trees_are;
    }

-- one tree more
lists_more : (levels : ℕ) (words : List PlacedWord) (t : Tree) (ts : Trees) → (halved : Halves words (tree_words t) (trees_words ts)) → ListsTo levels halved.front t → ListAllTo levels halved.back ts → ListAllTo levels words (tree t ts)
lists_more levels words t ts halved first rest = record {
  items = first.item ∷ rest.items;
  form = subst (λ (v : List PlacedWord). AreItems levels v (first.item ∷ rest.items)) (sym halved.words_are) (items_append first.form halved.back rest.items rest.form);
  trees_are = ap (λ (x : Tree). tree x (all_erased (placed_of rest.items))) first.tree_is ∙ ap (tree t) rest.trees_are;
}

mutual
  -- a tree's words form it
  tree_listed : (t : Tree) (levels : ℕ) (words : List PlacedWord) → map unplaced words ≡ tree_words t → IsWritable t → IsWithin levels t → ListsTo levels words t
  tree_listed (leaf w) levels words e good within = lists_leaf levels words w e good.1 good.2
  tree_listed (node ts) zero words e good within = absurd within
  tree_listed (node ts) (suc levels) words e good within = lists_node levels words ts e (λ inner d. trees_listed ts levels inner d good within)

  -- some trees' words form them
  trees_listed : (ts : Trees) (levels : ℕ) (words : List PlacedWord) → map unplaced words ≡ trees_words ts → AreWritable ts → AreWithin levels ts → ListAllTo levels words ts
  trees_listed no_trees levels [] e good within = record { items = []; form = none; trees_are = refl }
  trees_listed no_trees levels (v ∷ words) e good within = absurd (cc e)
  trees_listed (tree t ts) levels words e good within =
      let halved = halves words (tree_words t) (trees_words ts) e in
      lists_more levels words t ts halved (tree_listed t levels halved.front halved.front_is good.0 within.0) (trees_listed ts levels halved.back halved.back_is good.1 within.1)

-- trees as a list
erased_list : (items : List Placed) → list_of (all_erased (placed_of items)) ≡ map erased items
erased_list [] = refl
erased_list (t ∷ items) = ap (λ (ts : List Tree). erased t ∷ ts) (erased_list items)

-- ---- the laws

-- written pieces read back
pub reads_back : (pieces : List Piece) (trees : Trees) → AreWritten pieces [] → tokens_of pieces ≡ trees_words trees → AreWritable trees → AreWithin 128 trees → length (pieces_text pieces) ≤ 16777216 → ReadsAs (pieces_text pieces) (list_of trees)
reads_back pieces trees written tokens_are good within short =
    let listed = trees_listed trees 128 (words_from 0 (parts_of pieces)) (unplaced_words pieces 0 ∙ tokens_are) good within in
    record {
      items = listed.items;
      has = record {
        words = words_from 0 (parts_of pieces);
        within = short;
        spells = written_spells pieces written;
        valued = written_valued pieces 0 [] written;
        form = listed.form;
      };
      trees_are = sym (erased_list listed.items) ∙ ap list_of listed.trees_are;
    }

-- a tree with single spaces reads back
pub one_space : (t : Tree) → IsWritable t → IsWithin 128 t → length (tree_text t) ≤ 16777216 → ReadsAs (tree_text t) (t ∷ [])
one_space t good within short = reads_back (tree_pieces t) (tree t no_trees) (tree_written t [] good refl) (tree_tokens t ∙ sym (append-nil (tree_words t))) (good, tt) (within, tt) short
