-- Files that are read section by section. No public contract names these but those of functions that serve the crates above.
use Rattle.std.specs.Prelude.{◌≡◌, ℕ, true, List, [], ◌∷◌, ◌++◌, Option, Some, None, codes}
use Rattle.pddl_token.specs.declared.token.TokenKind.{TokenKind}
use Rattle.pddl_token.specs.declared.token.TokenKind.TheVariants.{Open, Close}
use Rattle.pddl_token.specs.Spelling.{PlacedWord}
use Rattle.pddl_token.specs.Trees.{Placed, erased}
use Rattle.pddl_scan.specs.Scanning.{LexedTo}
use Rattle.pddl_items.specs.Inner.TreeReading.{is_word_at}
use Rattle.pddl_text.specs.Lists.{AreItems}
use Rattle.pddl_sections.specs.Inner.Answers.{title_at}
use Rattle.pddl_file.specs.declared.keyword.SectionKeyword.{SectionKeyword}
use Rattle.pddl_file.specs.declared.keyword.Seen.{Seen}
use Rattle.pddl_file.specs.Inner.WordReading.{with_seen}

-- behind words stands a word of a kind and a text, up to whose end the text is read
abbrev pub IsWordBehind : List ℕ → List PlacedWord → ℕ → TokenKind → List ℕ → Type 0
IsWordBehind text words at kind spelled = (w : PlacedWord) × (w.kind ≡ kind) × (w.text ≡ spelled) × LexedTo text (words ++ w ∷ []) at

-- up to a place the text is `(define (WORD NAME)` and these sections
pub record HasBegun (word name text : List ℕ) (sections : List Placed) (at : ℕ) : Type 0 where
  pub opening : PlacedWord
  pub is_open : opening.kind ≡ Open
  pub inner : List PlacedWord
  pub first : Placed
  pub title : Placed
  pub lexed : LexedTo text (opening ∷ inner) at
  pub form : AreItems 127 inner (first ∷ title ∷ sections)
  pub is_define : is_word_at (codes "define") (erased first) ≡ true
  pub is_title : title_at word (erased title) ≡ Some name

-- the words so far
abbrev pub words_of : {word name text : List ℕ} {sections : List Placed} {at : ℕ} → HasBegun word name text sections at → List PlacedWord
words_of begun = begun.opening ∷ begun.inner

-- behind words stands a section of which this holds with its keyword, which is seen then too
pub record ReadsSection (Holds : Placed → SectionKeyword → Type 0) (text : List ℕ) (words : List PlacedWord) (at : ℕ) (seen next : Seen) : Type 0 where
  pub more : List PlacedWord
  pub section : Placed
  pub key : SectionKeyword
  pub lexed : LexedTo text (words ++ more) at
  pub form : AreItems 127 more (section ∷ [])
  pub holds : Holds section key
  pub next_is : next ≡ with_seen seen key

-- behind words stands a closing, and this holds
pub record ReadsEnd (Holds : Type 0) (text : List ℕ) (words : List PlacedWord) (at : ℕ) : Type 0 where
  pub closing : PlacedWord
  pub is_close : closing.kind ≡ Close
  pub lexed : LexedTo text (words ++ closing ∷ []) at
  pub holds : Holds

-- a section or the end, as it is answered
abbrev pub ReadsTurn : (Placed → SectionKeyword → Type 0) → Type 0 → List ℕ → List PlacedWord → ℕ → Seen → Option Seen → Type 0
ReadsTurn Holds Kept text words at seen (Some next) = ReadsSection Holds text words at seen next
ReadsTurn Holds Kept text words at seen None = ReadsEnd Kept text words at
