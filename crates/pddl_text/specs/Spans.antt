-- Where the words of a text stand in it. Own: PDDL's definitions give words no places.
use Rattle.std.specs.Prelude.{◌≡◌, ◌<◌, ◌≤◌, ℕ, List, length}
use Rattle.std.specs.List.{slice_range}
use Rattle.pddl_token.specs.Spelling.{PlacedWord}

-- The word has a byte, and is the text's slice at its span.
pub record IsSlice (text : List ℕ) (w : PlacedWord) : Type 0 where
  pub nonempty : w.span.start < w.span.end
  pub in_range : w.span.end ≤ length text
  pub text_is : w.text ≡ slice_range text w.span.start w.span.end

-- The word ends at or before the place where the other begins.
abbrev pub EndsBefore : PlacedWord → PlacedWord → Type 0
EndsBefore w other = w.span.end ≤ other.span.start
