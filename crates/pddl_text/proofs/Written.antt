-- Written pieces spell their text, and a tree's pieces are written.
use Rattle.std.proofs.Common.{◌≡◌, ℕ, ◌+◌, Bool, true, false, List, [], ◌∷◌, ◌++◌, length, map, refl, sym, ap, subst, ◌∙◌, arith, inl}
use Rattle.std.specs.Prelude.{◌==◌, ◌||◌, ◌&&◌}
use Rattle.std.specs.List.{AllPass, flat_map}
use Rattle.std.specs.Char.{is_ascii_digit, is_ascii_alphabetic, is_ascii_whitespace}
use Rattle.std.proofs.lemmas.Bool.{false_from_ne_true}
use Rattle.std.proofs.lemmas.List.{append_assoc, append-nil}
use Rattle.std.proofs.lemmas.List.Elements.{All-head, All-tail, All-nil, All-cons}
use Rattle.pddl_token.specs.declared.token.TokenKind.{TokenKind}
use Rattle.pddl_token.specs.declared.token.TokenKind.TheVariants.{Open, Close, Name, Variable, Keyword, Number, Dash, Equal, Colon, Bracket, Compare, Arithmetic}
use Rattle.pddl_token.specs.Bytes.{is_word_byte, begins, begins_decimals}
use Rattle.pddl_token.specs.Words.{MayFollow}
use Rattle.pddl_token.specs.Spelling.{Word, PlacedWord, placed, Part, gap, word, spelling, InTurn, words_from, Spells}
use Rattle.pddl_scan.specs.Faults.{IsValued, AreValued}
use Rattle.pddl_token.specs.Trees.{Tree, leaf, node, Trees, no_trees, tree, unplaced}
use Rattle.pddl_text.specs.Pieces.{Piece, token, blanks, piece_text, pieces_text, tokens_of, is_joining, IsApart, AreWritten, opening_word, closing_word, tree_words, trees_words, IsWritable, AreWritable, tree_pieces, first_pieces, later_pieces}
use Rattle.pddl_token.proofs.FrontNames.{letter_is_word_byte}

-- ---- what may follow

-- both sides of a false `||`
or_false : (a b : Bool) → (a || b) ≡ false → (a ≡ false) × (b ≡ false)
or_false false b e = (refl, e)
or_false true b e = absurd cc

-- nothing of a word begins there
record IsLoose (after : List ℕ) : Type 0 where
  no_word_byte : begins is_word_byte after ≡ false
  no_letter : begins is_ascii_alphabetic after ≡ false
  no_equal : begins (λ b. b == 61) after ≡ false
  no_decimals : begins_decimals after ≡ false

-- a byte that joins nothing begins nothing of a word
loose : (after : List ℕ) → begins is_joining after ≡ false → IsLoose after
loose [] e = record { no_word_byte = refl; no_letter = refl; no_equal = refl; no_decimals = refl }
loose (b ∷ after) e =
    let first = or_false (is_word_byte b) (b == 46 || b == 61) e in
    let second = or_false (b == 46) (b == 61) first.1 in
    record {
      no_word_byte = first.0;
      no_letter = false_from_ne_true (is_ascii_alphabetic b) (λ letter. let joined = letter_is_word_byte b letter in absurd (cc (joined, first.0)));
      no_equal = second.1;
      no_decimals = ap (λ t. t && begins is_ascii_digit after) second.0;
    }

-- what stands apart may follow
may_follow : (kind : TokenKind) (text after : List ℕ) → IsApart kind after → MayFollow kind text after
may_follow Open text after apart = tt
may_follow Close text after apart = tt
may_follow Name text after apart = (loose after apart).no_word_byte
may_follow Variable text after apart = (loose after apart).no_word_byte
may_follow Keyword text after apart = (loose after apart).no_word_byte
may_follow Number text after apart = ((loose after apart).no_word_byte, λ _. (loose after apart).no_decimals)
may_follow Dash text after apart = tt
may_follow Equal text after apart = tt
may_follow Colon text after apart = (loose after apart).no_letter
may_follow Bracket text after apart = tt
may_follow Compare text after apart = λ _. (loose after apart).no_equal
may_follow Arithmetic text after apart = tt

-- what joins nothing stands apart
apart : (kind : TokenKind) (after : List ℕ) → begins is_joining after ≡ false → IsApart kind after
apart Open after e = tt
apart Close after e = tt
apart _ after e = e

-- ---- pieces as parts

-- the bytes of the parts
abbrev text_of : List Part → List ℕ
text_of parts = flat_map spelling parts

-- each blank as a part
blank_parts : List ℕ → List Part → List Part
blank_parts [] parts = parts
blank_parts (b ∷ text) parts = gap (b ∷ []) ∷ blank_parts text parts

-- the pieces as parts
pub parts_of : List Piece → List Part
parts_of [] = []
parts_of (token w ∷ pieces) = word w ∷ parts_of pieces
parts_of (blanks text ∷ pieces) = blank_parts text (parts_of pieces)

-- blanks keep their text
blank_text : (text : List ℕ) (parts : List Part) → text_of (blank_parts text parts) ≡ text ++ text_of parts
unfolding blank_parts
blank_text [] parts = refl
blank_text (b ∷ text) parts = ap (λ (t : List ℕ). b ∷ t) (blank_text text parts)

-- pieces keep their text
pub parts_text : (pieces : List Piece) → text_of (parts_of pieces) ≡ pieces_text pieces
unfolding parts_of
parts_text [] = refl
parts_text (token w ∷ pieces) = ap (λ (t : List ℕ). w.text ++ t) (parts_text pieces)
parts_text (blanks text ∷ pieces) = blank_text text (parts_of pieces) ∙ ap (λ (t : List ℕ). text ++ t) (parts_text pieces)

-- blanks stand in turn
blanks_in_turn : (text : List ℕ) (parts : List Part) (after : List ℕ) → AllPass is_ascii_whitespace text → InTurn parts after → InTurn (blank_parts text parts) after
unfolding blank_parts
blanks_in_turn [] parts after all in_turn = in_turn
blanks_in_turn (b ∷ text) parts after all in_turn =
    (inl (b, All-head (λ x. is_ascii_whitespace x ≡ true) b text all, refl), blanks_in_turn text parts after (All-tail (λ x. is_ascii_whitespace x ≡ true) b text all) in_turn)

-- written pieces stand in turn
pub written_in_turn : (pieces : List Piece) (after : List ℕ) → AreWritten pieces after → InTurn (parts_of pieces) after
unfolding parts_of
written_in_turn [] after written = tt
written_in_turn (token w ∷ pieces) after (good, is_apart, rest) =
    ((good.0, may_follow w.kind w.text _ (subst (λ (t : List ℕ). IsApart w.kind (t ++ after)) (sym (parts_text pieces)) is_apart)), written_in_turn pieces after rest)
written_in_turn (blanks text ∷ pieces) after (all, rest) = blanks_in_turn text (parts_of pieces) after all (written_in_turn pieces after rest)

-- ---- their words

-- blanks have no words
blank_words : (text : List ℕ) (parts : List Part) (at : ℕ) → words_from at (blank_parts text parts) ≡ words_from (at + length text) parts
unfolding blank_parts
blank_words [] parts at = ap (λ (n : ℕ). words_from n parts) (omega arith)
blank_words (b ∷ text) parts at = blank_words text parts (at + 1) ∙ ap (λ (n : ℕ). words_from n parts) (omega arith)

-- the pieces' words
pub unplaced_words : (pieces : List Piece) (at : ℕ) → map unplaced (words_from at (parts_of pieces)) ≡ tokens_of pieces
unfolding parts_of
unplaced_words [] at = refl
unplaced_words (token w ∷ pieces) at = ap (λ (ws : List Word). w ∷ ws) (unplaced_words pieces (at + length w.text))
unplaced_words (blanks text ∷ pieces) at = ap (map unplaced) (blank_words text (parts_of pieces) at) ∙ unplaced_words pieces (at + length text)

-- the pieces' numbers have values
pub written_valued : (pieces : List Piece) (at : ℕ) (after : List ℕ) → AreWritten pieces after → AreValued (words_from at (parts_of pieces))
unfolding parts_of
written_valued [] at after written = All-nil (λ (v : PlacedWord). IsValued v.kind v.text)
written_valued (token w ∷ pieces) at after (good, is_apart, rest) =
    All-cons (λ (v : PlacedWord). IsValued v.kind v.text) (placed at w) (words_from (at + length w.text) (parts_of pieces)) good.1 (written_valued pieces (at + length w.text) after rest)
written_valued (blanks text ∷ pieces) at after (all, rest) = subst AreValued (sym (blank_words text (parts_of pieces) at)) (written_valued pieces (at + length text) after rest)

-- the pieces' words spell their text
pub written_spells : (pieces : List Piece) → AreWritten pieces [] → Spells (words_from 0 (parts_of pieces)) (pieces_text pieces)
written_spells pieces written = record {
  front = pieces_text pieces;
  rest = [];
  text_is = sym (append-nil (pieces_text pieces));
  spelled = record { parts = parts_of pieces; in_turn = written_in_turn pieces [] written; front_is = sym (parts_text pieces); words_are = refl };
  ends = inl refl;
}

-- ---- pieces joined

-- the text of joined pieces
pub pieces_append : (ps qs : List Piece) → pieces_text (ps ++ qs) ≡ pieces_text ps ++ pieces_text qs
pieces_append [] qs = refl
pieces_append (p ∷ ps) qs = ap (λ (t : List ℕ). piece_text p ++ t) (pieces_append ps qs) ∙ sym (append_assoc (piece_text p) (pieces_text ps) (pieces_text qs))

-- written pieces join
pub written_append : (ps qs : List Piece) (after : List ℕ) → AreWritten ps (pieces_text qs ++ after) → AreWritten qs after → AreWritten (ps ++ qs) after
written_append [] qs after first second = second
written_append (token w ∷ ps) qs after (good, is_apart, rest) second =
    let text : pieces_text ps ++ (pieces_text qs ++ after) ≡ pieces_text (ps ++ qs) ++ after = sym (append_assoc (pieces_text ps) (pieces_text qs) after) ∙ ap (λ (t : List ℕ). t ++ after) (sym (pieces_append ps qs)) in
    (good, subst (IsApart w.kind) text is_apart, written_append ps qs after rest second)
written_append (blanks text ∷ ps) qs after (all, rest) second = (all, written_append ps qs after rest second)

-- the words of joined pieces
pub tokens_append : (ps qs : List Piece) → tokens_of (ps ++ qs) ≡ tokens_of ps ++ tokens_of qs
tokens_append [] qs = refl
tokens_append (token w ∷ ps) qs = ap (λ (ws : List Word). w ∷ ws) (tokens_append ps qs)
tokens_append (blanks text ∷ ps) qs = tokens_append ps qs

-- ---- a tree's pieces

-- later trees begin with a space
later_loose : (ts : Trees) (after : List ℕ) → begins is_joining after ≡ false → begins is_joining (pieces_text (later_pieces ts) ++ after) ≡ false
later_loose no_trees after e = e
later_loose (tree t ts) after e = refl

-- a closing may stand anywhere
closing_written : (after : List ℕ) → AreWritten (token closing_word ∷ []) after
closing_written after = ((refl, λ e. absurd (cc e)), tt, tt)

mutual
  -- a tree's pieces are written
  pub tree_written : (t : Tree) (after : List ℕ) → IsWritable t → begins is_joining after ≡ false → AreWritten (tree_pieces t) after
  tree_written (leaf w) after good e = (good.0, apart w.kind after e, tt)
  tree_written (node ts) after good e = ((refl, λ e. absurd (cc e)), tt, written_append (first_pieces ts) (token closing_word ∷ []) after (first_written ts (41 ∷ after) good refl) (closing_written after))

  -- and so are a list's
  first_written : (ts : Trees) (after : List ℕ) → AreWritable ts → begins is_joining after ≡ false → AreWritten (first_pieces ts) after
  first_written no_trees after good e = tt
  first_written (tree t ts) after good e = written_append (tree_pieces t) (later_pieces ts) after (tree_written t (pieces_text (later_pieces ts) ++ after) good.0 (later_loose ts after e)) (later_written ts after good.1 e)

  -- and those behind the first tree
  later_written : (ts : Trees) (after : List ℕ) → AreWritable ts → begins is_joining after ≡ false → AreWritten (later_pieces ts) after
  later_written no_trees after good e = tt
  later_written (tree t ts) after good e = (
    All-cons (λ x. is_ascii_whitespace x ≡ true) 32 [] refl (All-nil (λ x. is_ascii_whitespace x ≡ true)),
    written_append (tree_pieces t) (later_pieces ts) after (tree_written t (pieces_text (later_pieces ts) ++ after) good.0 (later_loose ts after e)) (later_written ts after good.1 e),
  )

mutual
  -- a tree's pieces have its words
  pub tree_tokens : (t : Tree) → tokens_of (tree_pieces t) ≡ tree_words t
  tree_tokens (leaf w) = refl
  tree_tokens (node ts) = ap (λ (ws : List Word). opening_word ∷ ws) (tokens_append (first_pieces ts) (token closing_word ∷ []) ∙ ap (λ (ws : List Word). ws ++ closing_word ∷ []) (first_tokens ts))

  -- and a list's pieces its words
  first_tokens : (ts : Trees) → tokens_of (first_pieces ts) ≡ trees_words ts
  first_tokens no_trees = refl
  first_tokens (tree t ts) = tokens_append (tree_pieces t) (later_pieces ts) ∙ ap (λ (ws : List Word). ws ++ tokens_of (later_pieces ts)) (tree_tokens t) ∙ ap (λ (ws : List Word). tree_words t ++ ws) (later_tokens ts)

  -- and those behind the first tree
  later_tokens : (ts : Trees) → tokens_of (later_pieces ts) ≡ trees_words ts
  later_tokens no_trees = refl
  later_tokens (tree t ts) = tokens_append (tree_pieces t) (later_pieces ts) ∙ ap (λ (ws : List Word). ws ++ tokens_of (later_pieces ts)) (tree_tokens t) ∙ ap (λ (ws : List Word). tree_words t ++ ws) (later_tokens ts)
