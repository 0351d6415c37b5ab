-- A text of which only the first bytes have come, and the words that these settle. Own.
use Rattle.std.specs.Prelude.{◌≡◌, ℕ, ◌≤◌, List, [], ◌∷◌, ◌++◌, length, drop}
use Rattle.std.specs.List.{AllPass}
use Rattle.pddl_token.specs.declared.token.Word.{Word}
use Rattle.pddl_scan.specs.declared.parts.Progress.{Progress}
use Rattle.pddl_scan.specs.declared.parts.Progress.TheVariants as progress
use Rattle.pddl_token.specs.Bytes.{is_inner_byte}
use Rattle.pddl_token.specs.Spelling.{PlacedWord, SpelledUpTo, IsOpenComment}
use Rattle.pddl_scan.specs.Faults.{IsStray, IsGlued, IsOutOfRange, IsLeftmost}
use Rattle.pddl_scan.specs.Scanning.{LexedTo}

-- a word with a text of its own, as the definitions see it
abbrev pub word_view : {A : _} → Word A → PlacedWord
word_view w = record { kind = w.kind; text = w.text.items; span = w.span }

-- what stands behind the place: a word's beginning, which is held back; a comment that is open; or anything, after a fault
-- that stands leftmost whatever follows
abbrev pub IsBehindWords : Progress → List ℕ → List ℕ → ℕ → Type 0
IsBehindWords progress.Words held text at = (drop at text ≡ held) × AllPass is_inner_byte held
IsBehindWords progress.Comment held text at = (held ≡ []) × IsOpenComment (drop at text)
IsBehindWords (progress.Stray place) held text at = (held ≡ []) × ((more : List ℕ) → IsLeftmost IsStray (text ++ more) place)
IsBehindWords (progress.Glued place) held text at = (held ≡ []) × ((more : List ℕ) → IsLeftmost IsGlued (text ++ more) place)
IsBehindWords (progress.NumberRange place) held text at = (held ≡ []) × ((more : List ℕ) → IsLeftmost IsOutOfRange (text ++ more) place)

-- the words spell the text up to a place, whatever follows it
pub record HasRead (reached : Progress) (held text : List ℕ) (words : List PlacedWord) : Type 0 where
  pub place : ℕ
  pub in_range : place ≤ length text
  pub lexed : (more : List ℕ) → LexedTo (text ++ more) words place
  pub behind : IsBehindWords reached held text place

-- the words spell the text up to some place
pub record SpellsPartly (words : List PlacedWord) (text : List ℕ) : Type 0 where
  pub front : List ℕ
  pub rest : List ℕ
  pub text_is : text ≡ front ++ rest
  pub spelled : SpelledUpTo words front rest

-- the last byte is LF
abbrev pub EndsLine : List ℕ → Type 0
EndsLine text = (lines : List ℕ) × (text ≡ lines ++ 10 ∷ [])
