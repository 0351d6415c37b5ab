-- Where the lines of a text begin. Own.
use Rattle.std.specs.Prelude.{◌≡◌, ◌≤◌, ℕ, ◌+◌, List, [], ◌∷◌, length, ◌==◌, if◌then◌else◌}

-- the places behind the LFs of bytes of which the first stands at a place
abbrev pub starts_from : ℕ → List ℕ → List ℕ
starts_from at [] = []
starts_from at (b ∷ bytes) = if b == 10 then (at + 1) ∷ starts_from (at + 1) bytes else starts_from (at + 1) bytes

-- what is kept of a text
pub record LineStarts : Type 0 where
  pub starts : List ℕ
  pub len : ℕ

-- the place where each line begins, but the first, and how many bytes there are
abbrev pub line_starts : List ℕ → LineStarts
line_starts text = record { starts = starts_from 0 text; len = length text }

-- a text within the limit has these
pub record AreStarts (starts : List ℕ) (len : ℕ) : Type 0 where
  pub text : List ℕ
  pub starts_are : starts ≡ starts_from 0 text
  pub counted : len ≡ length text
  pub within : len ≤ 16777216
