-- Texts written piece by piece. Own.
use Rattle.std.specs.Prelude.{◌≡◌, ◌≢◌, ℕ, zero, suc, Bool, false, List, [], ◌∷◌, ◌++◌, codes, ◌==◌, ◌||◌}
use Rattle.std.specs.List.{AllPass, flat_map}
use Rattle.std.specs.Char.{is_ascii_whitespace}
use Rattle.pddl_token.specs.declared.token.TokenKind.{TokenKind}
use Rattle.pddl_token.specs.declared.token.TokenKind.TheVariants.{Open, Close}
use Rattle.pddl_token.specs.Bytes.{is_word_byte, begins}
use Rattle.pddl_token.specs.Words.{IsSpelling}
use Rattle.pddl_token.specs.Spelling.{Word}
use Rattle.pddl_scan.specs.Faults.{IsValued}
use Rattle.pddl_token.specs.Trees.{Tree, leaf, node, Trees, no_trees, tree}

-- a word, or blanks
pub data Piece : Type 0 where
  token : Word → Piece
  blanks : List ℕ → Piece

-- the piece's bytes
abbrev pub piece_text : Piece → List ℕ
piece_text (token w) = w.text
piece_text (blanks text) = text

-- the text that the pieces make
abbrev pub pieces_text : List Piece → List ℕ
pieces_text pieces = flat_map piece_text pieces

-- the words among the pieces
abbrev pub tokens_of : List Piece → List Word
tokens_of [] = []
tokens_of (token w ∷ pieces) = w ∷ tokens_of pieces
tokens_of (blanks text ∷ pieces) = tokens_of pieces

-- a word byte, a point or `=`: a word could go on with it
abbrev pub is_joining : ℕ → Bool
is_joining b = is_word_byte b || (b == 46 || b == 61)

-- the bytes directly behind a word of this kind are surely not read with it
abbrev pub IsApart : TokenKind → List ℕ → Type 0
IsApart Open after = Unit {0}
IsApart Close after = Unit {0}
IsApart _ after = begins is_joining after ≡ false

-- spelled by its kind, and with a value if it is a number
abbrev pub IsWellFormed : Word → Type 0
IsWellFormed w = IsSpelling w.kind w.text × IsValued w.kind w.text

-- the pieces are well formed and stand apart, the last one before these bytes
abbrev pub AreWritten : List Piece → List ℕ → Type 0
AreWritten [] after = Unit {0}
AreWritten (token w ∷ pieces) after = IsWellFormed w × IsApart w.kind (pieces_text pieces ++ after) × AreWritten pieces after
AreWritten (blanks text ∷ pieces) after = AllPass is_ascii_whitespace text × AreWritten pieces after

-- `(`
abbrev pub opening_word : Word
opening_word = record { kind = Open; text = codes "(" }

-- `)`
abbrev pub closing_word : Word
closing_word = record { kind = Close; text = codes ")" }

-- the words of a tree
abbrev mutual
  pub tree_words : Tree → List Word
  tree_words (leaf w) = w ∷ []
  tree_words (node ts) = opening_word ∷ (trees_words ts ++ closing_word ∷ [])

  pub trees_words : Trees → List Word
  trees_words no_trees = []
  trees_words (tree t ts) = tree_words t ++ trees_words ts

-- each leaf is a well-formed word and no parenthesis
abbrev mutual
  pub IsWritable : Tree → Type 0
  IsWritable (leaf w) = IsWellFormed w × (w.kind ≢ Open) × (w.kind ≢ Close)
  IsWritable (node ts) = AreWritable ts

  pub AreWritable : Trees → Type 0
  AreWritable no_trees = Unit {0}
  AreWritable (tree t ts) = IsWritable t × AreWritable ts

-- lists stand at most so many levels deep
abbrev mutual
  pub IsWithin : ℕ → Tree → Type 0
  IsWithin levels (leaf w) = Unit {0}
  IsWithin zero (node ts) = ⊥
  IsWithin (suc levels) (node ts) = AreWithin levels ts

  pub AreWithin : ℕ → Trees → Type 0
  AreWithin levels no_trees = Unit {0}
  AreWithin levels (tree t ts) = IsWithin levels t × AreWithin levels ts

-- a tree's words with one space between two trees of a list
abbrev mutual
  pub tree_pieces : Tree → List Piece
  tree_pieces (leaf w) = token w ∷ []
  tree_pieces (node ts) = token opening_word ∷ (first_pieces ts ++ token closing_word ∷ [])

  pub first_pieces : Trees → List Piece
  first_pieces no_trees = []
  first_pieces (tree t ts) = tree_pieces t ++ later_pieces ts

  pub later_pieces : Trees → List Piece
  later_pieces no_trees = []
  later_pieces (tree t ts) = blanks (codes " ") ∷ (tree_pieces t ++ later_pieces ts)

-- the tree's text with one space between two trees of a list
abbrev pub tree_text : Tree → List ℕ
tree_text t = pieces_text (tree_pieces t)
