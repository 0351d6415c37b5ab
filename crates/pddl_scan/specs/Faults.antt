-- What is wrong at a place of a text, where no words spell it or a number has no value. Own: PDDL's definitions name no faults.
use Rattle.std.specs.Prelude.{◌≡◌, ℕ, ◌<◌, ◌≤◌, ◌⊎◌, false, true, List, ◌++◌, length, take, drop, IsNone, IsSome, All, ◌==◌, ◌||◌}
use Rattle.std.specs.Char.{is_ascii_whitespace}
use Rattle.pddl_token.specs.declared.token.TokenKind.{TokenKind}
use Rattle.pddl_token.specs.declared.token.TokenKind.TheVariants.{Number}
use Rattle.pddl_scan.specs.declared.fault.TextFault.{TextFault}
use Rattle.pddl_scan.specs.declared.fault.TextFault.TheVariants as faults
use Rattle.pddl_token.specs.Bytes.{is_word_byte, begins}
use Rattle.pddl_token.specs.Words.{IsNumber, IsSpelling}
use Rattle.pddl_token.specs.Number.{value_of}
use Rattle.pddl_token.specs.Spelling.{PlacedWord, SpelledUpTo}

-- a byte that is no blank and no `;` begins no word
pub record IsStray (rest : List ℕ) : Type 0 where
  pub some_byte : 0 < length rest
  pub no_gap : begins (λ b. is_ascii_whitespace b || (b == 59)) rest ≡ false
  pub no_word : (kind : TokenKind) (text after : List ℕ) → IsSpelling kind text → rest ≡ text ++ after → ⊥

-- the longest number that begins there
pub record IsLongestNumber (number after rest : List ℕ) : Type 0 where
  pub rest_is : rest ≡ number ++ after
  pub is_number : IsNumber number
  pub longest : (other more : List ℕ) → IsNumber other → rest ≡ other ++ more → length other ≤ length number

-- a word byte directly follows the longest number
pub record IsGlued (rest : List ℕ) : Type 0 where
  pub number : List ℕ
  pub after : List ℕ
  pub longest : IsLongestNumber number after rest
  pub word_byte : begins is_word_byte after ≡ true

-- the longest number has no value (and is not glued, which would be the fault)
pub record IsOutOfRange (rest : List ℕ) : Type 0 where
  pub number : List ℕ
  pub after : List ℕ
  pub longest : IsLongestNumber number after rest
  pub no_value : IsNone (value_of number)
  pub not_glued : begins is_word_byte after ≡ false

-- one of the three faults stands at the front
abbrev pub IsFaulty : List ℕ → Type 0
IsFaulty rest = IsStray rest ⊎ (IsGlued rest ⊎ IsOutOfRange rest)

-- the text is spelled up to the place
abbrev pub IsReached : List ℕ → ℕ → Type 0
IsReached text place = (words : List PlacedWord) × SpelledUpTo words (take place text) (drop place text)

-- the fault stands at the place, and no fault stands at an earlier one
pub record IsLeftmost (Fault : List ℕ → Type 0) (text : List ℕ) (place : ℕ) : Type 0 where
  pub reached : IsReached text place
  pub fault : Fault (drop place text)
  pub leftmost : (earlier : ℕ) → earlier < place → IsReached text earlier → IsFaulty (drop earlier text) → ⊥

-- a number has a value
abbrev pub IsValued : TokenKind → List ℕ → Type 0
IsValued kind text = kind ≡ Number → IsSome (value_of text)

-- each number among the words has a value
abbrev pub AreValued : List PlacedWord → Type 0
AreValued words = All (λ w. IsValued w.kind w.text) words

-- the longest text, in bytes: 16 MiB (own)
abbrev pub longest : ℕ
longest = 16777216

-- the text keeps the limit of length, and the fault stands leftmost at the place
pub record HasFaultAt (Fault : List ℕ → Type 0) (text : List ℕ) (place : ℕ) : Type 0 where
  pub within : length text ≤ longest
  pub leftmost : IsLeftmost Fault text place

-- what each answer of `lex` says of the text
abbrev pub Stands : TextFault → List ℕ → Type 0
Stands faults.Memory text = Unit {0}
Stands faults.TooLong text = longest < length text
Stands (faults.Stray at) text = HasFaultAt IsStray text at
Stands (faults.Glued at) text = HasFaultAt IsGlued text at
Stands (faults.NumberRange at) text = HasFaultAt IsOutOfRange text at
-- a list's faults are not of `lex`
Stands (faults.Unopened at) text = ⊥
Stands (faults.TooDeep at) text = ⊥
Stands (faults.Unclosed at) text = ⊥
-- nor is one of pieces
Stands faults.AlreadyFailed text = ⊥
