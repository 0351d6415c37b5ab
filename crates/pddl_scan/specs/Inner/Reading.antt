-- What is read at the front of a text: as a function of the bytes, and what the answer means. No public contract names these.
use Rattle.std.specs.Prelude.{◌≡◌, ℕ, ◌+◌, ◌<◌, ◌≤◌, List, [], ◌∷◌, length, take, drop, nat_lt, ◌==◌, Some, is_some, if◌then◌else◌}
use Rattle.std.specs.List.{prefix_len}
use Rattle.std.specs.Char.{is_ascii_digit, is_ascii_alphabetic}
use Rattle.pddl_token.specs.Bytes.{is_line_byte, is_word_byte, begins, begins_decimals}
use Rattle.pddl_scan.specs.Inner.ByteClass.{class_of}
use Rattle.pddl_token.specs.Number.{value_of}
use Rattle.pddl_scan.specs.declared.bytes.ByteClass.{ByteClass}
use Rattle.pddl_scan.specs.declared.bytes.ByteClass.TheVariants.{Blank, Semicolon, Letter, Digit, Question, Colon, Angle, Lone, Other}
use Rattle.pddl_token.specs.declared.token.TokenKind.TheVariants as kinds
use Rattle.pddl_scan.specs.declared.next.Next.{Next}
use Rattle.pddl_scan.specs.declared.next.Next.TheVariants.{Gap, Word, OpenComment, Stray, Glued, OutOfRange}
use Rattle.pddl_token.specs.declared.token.TokenKind.{TokenKind}
use Rattle.pddl_token.specs.Spelling.{Word as Spelled, gap, word, IsPart, IsOpenComment}
use Rattle.pddl_scan.specs.Faults.{IsStray, IsGlued, IsOutOfRange, IsValued}

-- the digits, with a point and digits where they follow
unfoldable pub number_len : List ℕ → ℕ
number_len text =
    let whole = prefix_len is_ascii_digit text in
    if begins_decimals (drop whole text) then whole + 1 + prefix_len is_ascii_digit (drop (whole + 1) text) else whole

-- a comment, which LF or the text's end ends
unfoldable pub next_comment : List ℕ → Next
next_comment text =
    let len = prefix_len is_line_byte text in
    if nat_lt len (length text) then Gap (len + 1) else OpenComment

-- the longest number, if it is a word
unfoldable pub next_number : List ℕ → Next
next_number text =
    let len = number_len text in
    if begins is_word_byte (drop len text) then Glued
    else (if is_some (value_of (take len text)) then Word kinds.Number len else OutOfRange)

-- by the class of the first byte
unfoldable pub next_by : ByteClass → List ℕ → Next
next_by Blank text = Gap 1
next_by Semicolon text = next_comment text
next_by Letter text = Word kinds.Name (prefix_len is_word_byte text)
next_by Digit text = next_number text
next_by Question text = if begins is_ascii_alphabetic (drop 1 text) then Word kinds.Variable (1 + prefix_len is_word_byte (drop 1 text)) else Stray
next_by Colon text = if begins is_ascii_alphabetic (drop 1 text) then Word kinds.Keyword (1 + prefix_len is_word_byte (drop 1 text)) else Word kinds.Colon 1
next_by Angle text = if begins (λ b. b == 61) (drop 1 text) then Word kinds.Compare 2 else Word kinds.Compare 1
next_by (Lone kind) text = Word kind 1
next_by Other text = Stray

-- the first part, or why there is none
unfoldable pub next_of : List ℕ → Next
next_of [] = Stray
next_of (b ∷ bytes) = next_by (class_of b) (b ∷ bytes)

-- the first bytes are a blank or a comment
pub record IsGapAt (len : ℕ) (text : List ℕ) : Type 0 where
  pub nonempty : 0 < len
  pub in_range : len ≤ length text
  pub is_part : IsPart (gap (take len text)) (drop len text)

-- the first bytes as a word
abbrev pub word_at : TokenKind → ℕ → List ℕ → Spelled
word_at kind len text = record { kind = kind; text = take len text }

-- the first bytes are a word, which has a value if it is a number
pub record IsWordAt (kind : TokenKind) (len : ℕ) (text : List ℕ) : Type 0 where
  pub nonempty : 0 < len
  pub in_range : len ≤ length text
  pub is_part : IsPart (word (word_at kind len text)) (drop len text)
  pub valued : IsValued kind (take len text)

-- the first bytes are a number of this value
abbrev pub IsNumberAt : List ℕ → ℕ → ℕ → Type 0
IsNumberAt text value len = IsWordAt kinds.Number len text × (value_of (take len text) ≡ Some value)

-- what an answer says of the text
abbrev pub Reads : Next → List ℕ → Type 0
Reads (Gap len) text = IsGapAt len text
Reads (Word kind len) text = IsWordAt kind len text
Reads OpenComment text = IsOpenComment text
Reads Stray text = IsStray text
Reads Glued text = IsGlued text
Reads OutOfRange text = IsOutOfRange text
