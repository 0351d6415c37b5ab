-- Lines of a canonical text: their bytes, their words, and that they can be written.
use Rattle.std.proofs.Common.{◌≡◌, ℕ, List, [], ◌∷◌, ◌++◌, map, refl, sym, ap, ap₂, ◌∙◌, subst, codes, append_assoc, append-nil}
use Rattle.std.specs.List.{flat_map}
use Rattle.pddl_token.specs.Spelling.{Word}
use Rattle.pddl_token.specs.Trees.{Tree, trees_of}
use Rattle.pddl_text.specs.Pieces.{Piece, blanks, pieces_text, tokens_of, AreWritten, tree_words, trees_words, IsWritable, tree_pieces}
use Rattle.pddl_text.proofs.Written.{pieces_append, written_append, tokens_append, tree_written, tree_tokens}
use Rattle.pddl_sections.specs.Sections.{AllOf}
use Rattle.pddl_file_layout.specs.DomainLayout.{section_line}
use Rattle.pddl_file_layout.specs.Inner.DomainPieces.{section_pieces, end_pieces}
use Rattle.pddl_file_layout.proofs.WritableTrees.{all_blank}

-- ---- words of lists

pub map_same : (ts : List Tree) → map (λ (t : Tree). t) ts ≡ ts
map_same [] = refl
map_same (t ∷ ts) = ap (λ (us : List Tree). t ∷ us) (map_same ts)

pub words_append : (ts us : List Tree) → trees_words (trees_of (ts ++ us)) ≡ trees_words (trees_of ts) ++ trees_words (trees_of us)
words_append [] us = refl
words_append (t ∷ ts) us = ap (λ (ws : List Word). tree_words t ++ ws) (words_append ts us) ∙ sym (append_assoc (tree_words t) (trees_words (trees_of ts)) (trees_words (trees_of us)))

-- ---- one group of pieces for each element

module _ {A : Type 0} (pieces : A → List Piece) where
  pub group_text : (text : A → List ℕ) → ((x : A) → pieces_text (pieces x) ≡ text x) → (xs : List A) (rest : List Piece) → pieces_text (flat_map pieces xs ++ rest) ≡ flat_map text xs ++ pieces_text rest
  group_text text is [] rest = refl
  group_text text is (x ∷ xs) rest =
      ap pieces_text (append_assoc (pieces x) (flat_map pieces xs) rest) ∙ (pieces_append (pieces x) (flat_map pieces xs ++ rest)
      ∙ (ap₂ (λ (a b : List ℕ). a ++ b) (is x) (group_text text is xs rest) ∙ sym (append_assoc (text x) (flat_map text xs) (pieces_text rest))))

  pub group_tokens : (tree_of : A → Tree) → ((x : A) → tokens_of (pieces x) ≡ tree_words (tree_of x)) → (xs : List A) (rest : List Piece)
      → tokens_of (flat_map pieces xs ++ rest) ≡ trees_words (trees_of (map tree_of xs)) ++ tokens_of rest
  group_tokens tree_of is [] rest = refl
  group_tokens tree_of is (x ∷ xs) rest =
      ap tokens_of (append_assoc (pieces x) (flat_map pieces xs) rest) ∙ (tokens_append (pieces x) (flat_map pieces xs ++ rest)
      ∙ (ap₂ (λ (a b : List Word). a ++ b) (is x) (group_tokens tree_of is xs rest) ∙ sym (append_assoc (tree_words (tree_of x)) (trees_words (trees_of (map tree_of xs))) (tokens_of rest))))

  -- each group can be written before any bytes, since it ends a line
  pub group_written : (Good : A → Type 0) → ((x : A) (after : List ℕ) → Good x → AreWritten (pieces x) after) → (xs : List A) (rest : List Piece) (after : List ℕ) → AllOf Good xs → AreWritten rest after
      → AreWritten (flat_map pieces xs ++ rest) after
  group_written Good written [] rest after all done = done
  group_written Good written (x ∷ xs) rest after (here, others) done =
      subst (λ ps. AreWritten ps after) (sym (append_assoc (pieces x) (flat_map pieces xs) rest))
      (written_append (pieces x) (flat_map pieces xs ++ rest) after (written x (pieces_text (flat_map pieces xs ++ rest) ++ after) here)
      (group_written Good written xs rest after others done))

-- ---- sections on lines of their own

pub section_text : (t : Tree) → pieces_text (section_pieces t) ≡ section_line t
section_text t = ap (λ (x : List ℕ). codes "  " ++ x) (pieces_append (tree_pieces t) (blanks (codes "\n") ∷ []))

pub section_tokens : (t : Tree) → tokens_of (section_pieces t) ≡ tree_words t
section_tokens t = tokens_append (tree_pieces t) (blanks (codes "\n") ∷ []) ∙ (append-nil (tokens_of (tree_pieces t)) ∙ tree_tokens t)

pub section_written : (t : Tree) (after : List ℕ) → IsWritable t → AreWritten (section_pieces t) after
section_written t after good =
    (all_blank (codes "  ") refl, written_append (tree_pieces t) (blanks (codes "\n") ∷ []) after (tree_written t (pieces_text (blanks (codes "\n") ∷ []) ++ after) good refl) (all_blank (codes "\n") refl, tt))

pub end_written : (after : List ℕ) → AreWritten end_pieces after
end_written after = ((refl, λ bad. absurd (cc (bad))), tt, (all_blank (codes "\n") refl, tt))
