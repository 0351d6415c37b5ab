-- How far the parts of a text are read of which only the first bytes have come. No public contract names these.
use Rattle.std.specs.Prelude.{◌≡◌, ℕ, ◌≤◌, ◌⊎◌, false, List, [], ◌∷◌, ◌++◌, length, drop}
use Rattle.pddl_scan.specs.declared.next.Next.{Next}
use Rattle.pddl_scan.specs.declared.next.Next.TheVariants as nexts
use Rattle.pddl_scan.specs.declared.parts.Progress.{Progress}
use Rattle.pddl_scan.specs.declared.parts.Progress.TheVariants as progress
use Rattle.pddl_token.specs.Bytes.{is_inner_byte}
use Rattle.pddl_token.specs.Spelling.{PlacedWord, Spells, IsOpenComment}
use Rattle.pddl_scan.specs.Faults.{AreValued, IsStray, IsGlued, IsOutOfRange, IsLeftmost}
use Rattle.pddl_scan.specs.Inner.Reading.{Reads}
use Rattle.pddl_scan.specs.Scanning.{LexedTo}

-- the last byte is a blank, a parenthesis or `;`, so that no word or fault before it goes on behind it
pub record IsEnded (text : List ℕ) : Type 0 where
  pub front : List ℕ
  pub last : ℕ
  pub text_is : text ≡ front ++ last ∷ []
  pub ends : is_inner_byte last ≡ false

-- the bytes that follow change nothing of what stands in the text
abbrev pub Settles : List ℕ → List ℕ → Type 0
Settles text more = IsEnded text ⊎ ((more ≡ []) ⊎ (text ≡ []))

-- what was read stands there, more bytes following
abbrev pub ReadsOn : Next → List ℕ → List ℕ → Type 0
ReadsOn nexts.OpenComment text more = IsOpenComment text
ReadsOn (nexts.Gap len) text more = Reads (nexts.Gap len) (text ++ more)
ReadsOn (nexts.Word kind len) text more = Reads (nexts.Word kind len) (text ++ more)
ReadsOn nexts.Stray text more = Reads nexts.Stray (text ++ more)
ReadsOn nexts.Glued text more = Reads nexts.Glued (text ++ more)
ReadsOn nexts.OutOfRange text more = Reads nexts.OutOfRange (text ++ more)

-- why reading stopped at the place of a text, of which the first bytes have come
abbrev pub StopsAt : Progress → List ℕ → List ℕ → ℕ → Type 0
StopsAt progress.Words text come at = at ≡ length come
StopsAt progress.Comment text come at = IsOpenComment (drop at come)
StopsAt (progress.Stray place) text come at = IsLeftmost IsStray text place
StopsAt (progress.Glued place) text come at = IsLeftmost IsGlued text place
StopsAt (progress.NumberRange place) text come at = IsLeftmost IsOutOfRange text place

-- the words spell the text up to the place where reading stopped
pub record StoppedAt (stop : Progress) (text come : List ℕ) (words : List PlacedWord) (at : ℕ) : Type 0 where
  pub lexed : LexedTo text words at
  pub in_range : at ≤ length come
  pub why : StopsAt stop text come at

-- what reading the whole text has shown
abbrev pub AnswersAt : Progress → List ℕ → List PlacedWord → Type 0
AnswersAt progress.Words text words = Spells words text × AreValued words
AnswersAt progress.Comment text words = Spells words text × AreValued words
AnswersAt (progress.Stray place) text words = IsLeftmost IsStray text place
AnswersAt (progress.Glued place) text words = IsLeftmost IsGlued text place
AnswersAt (progress.NumberRange place) text words = IsLeftmost IsOutOfRange text place
