-- Which words spell a text: it is blanks, comments and words in turn. Kovacs, BNF definition of PDDL 3.1, has the words and
-- comments; that they stand in turn, each with its place, is own.
use Rattle.std.specs.Prelude.{◌≡◌, ℕ, ◌⊎◌, true, List, [], ◌∷◌, ◌++◌, ◌+◌, length, codes}
use Rattle.std.specs.List.{AllPass, flat_map}
use Rattle.std.specs.Char.{is_ascii_whitespace}
use Rattle.pddl_token.specs.declared.token.TokenKind.{TokenKind}
use Rattle.pddl_token.specs.declared.token.Span.{Span}
use Rattle.pddl_token.specs.declared.token.Token.{Token}
use Rattle.pddl_token.specs.Bytes.{is_line_byte}
use Rattle.pddl_token.specs.Words.{IsSpelling, MayFollow}

-- a word as it is spelled
pub record Word : Type 0 where
  pub kind : TokenKind
  pub text : List ℕ

-- a space, tab, LF, CR or FF
abbrev pub IsBlank : List ℕ → Type 0
IsBlank text = (b : ℕ) × (is_ascii_whitespace b ≡ true) × (text ≡ b ∷ [])

-- `;` and bytes without LF
abbrev pub IsOpenComment : List ℕ → Type 0
IsOpenComment text = (bytes : List ℕ) × AllPass is_line_byte bytes × (text ≡ codes ";" ++ bytes)

-- the same, ended by LF
abbrev pub IsComment : List ℕ → Type 0
IsComment text = (bytes : List ℕ) × AllPass is_line_byte bytes × (text ≡ codes ";" ++ bytes ++ 10 ∷ [])

-- a blank or a comment, or a word
pub data Part : Type 0 where
  gap : List ℕ → Part
  word : Word → Part

-- the part's bytes
abbrev pub spelling : Part → List ℕ
spelling (gap text) = text
spelling (word w) = w.text

-- the part stands directly before these bytes
abbrev pub IsPart : Part → List ℕ → Type 0
IsPart (gap text) after = IsBlank text ⊎ IsComment text
IsPart (word w) after = IsSpelling w.kind w.text × MayFollow w.kind w.text after

-- the parts stand one directly after the other, and then these bytes
abbrev pub InTurn : List Part → List ℕ → Type 0
InTurn [] after = Unit {0}
InTurn (part ∷ parts) after = IsPart part (flat_map spelling parts ++ after) × InTurn parts after

-- a word with its place in the text
pub record PlacedWord : Type 0 where
  pub kind : TokenKind
  pub text : List ℕ
  pub span : Span

-- a word that begins at the place
abbrev pub placed : ℕ → Word → PlacedWord
placed at w = record { kind = w.kind; text = w.text; span = record { start = at; end = at + length w.text } }

-- the words among the parts, of which the first stands at a place
abbrev pub words_from : ℕ → List Part → List PlacedWord
words_from at [] = []
words_from at (gap text ∷ parts) = words_from (at + length text) parts
words_from at (word w ∷ parts) = placed at w ∷ words_from (at + length w.text) parts

-- the words spell a text up to a place: front stands before the place, and after from it on
pub record SpelledUpTo (words : List PlacedWord) (front after : List ℕ) : Type 0 where
  pub parts : List Part
  pub in_turn : InTurn parts after
  pub front_is : front ≡ flat_map spelling parts
  pub words_are : words ≡ words_from 0 parts

-- the words spell the text: up to its end, or up to a comment that the text's end ends
pub record Spells (words : List PlacedWord) (text : List ℕ) : Type 0 where
  pub front : List ℕ
  pub rest : List ℕ
  pub text_is : text ≡ front ++ rest
  pub spelled : SpelledUpTo words front rest
  pub ends : (rest ≡ []) ⊎ IsOpenComment rest

-- a token as the definitions see it
abbrev pub view : Token → PlacedWord
view t = record { kind = t.kind; text = t.text.now; span = t.span }
