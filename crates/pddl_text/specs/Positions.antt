-- Lines and columns. Own.
use Rattle.std.specs.Prelude.{◌≡◌, ℕ, ◌+◌, ◌⊎◌, List, [], ◌∷◌, ◌++◌, length, ◌==◌}
use Rattle.std.specs.List.{AllPass, count_by}
use Rattle.pddl_text.specs.declared.place.Pos.{Pos}
use Rattle.pddl_token.specs.Bytes.{is_line_byte}

-- no bytes, or bytes that an LF ends
abbrev pub AreLines : List ℕ → Type 0
AreLines text = (text ≡ []) ⊎ ((before : List ℕ) × (text ≡ before ++ 10 ∷ []))

-- the position behind these bytes: they are whole lines, and then a line's beginning
pub record IsBehind (bytes : List ℕ) (pos : Pos) : Type 0 where
  pub lines : List ℕ
  pub beginning : List ℕ
  pub bytes_are : bytes ≡ lines ++ beginning
  pub are_lines : AreLines lines
  pub one_line : AllPass is_line_byte beginning
  pub line_is : pos.line ≡ 1 + count_by (λ b. b == 10) bytes
  pub col_is : pos.col ≡ 1 + length beginning
