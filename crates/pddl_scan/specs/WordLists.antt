-- Words side by side in one text.
use Rattle.std.specs.Prelude.{◌≤◌, ◌+◌, ◌-◌, ℕ, List, slice_range}
use Rattle.pddl_scan.specs.declared.word_list.Mark.{Mark}
use Rattle.pddl_token.specs.Spelling.{PlacedWord}

-- the word of a mark
abbrev pub mark_view : List ℕ → Mark → PlacedWord
mark_view text m = record { kind = m.kind; text = slice_range text m.begins (m.begins + (m.span.end - m.span.start)); span = m.span }

-- the word stands in a text of this length
pub record IsMark (len : ℕ) (m : Mark) : Type 0 where
  pub rises : m.span.start ≤ m.span.end
  pub within : m.begins + (m.span.end - m.span.start) ≤ len
