-- Bytes of a text, by what they are and by what stands at its front. The bytes of names: Kovacs, BNF definition of PDDL 3.1.
use Rattle.std.specs.Prelude.{ℕ, Bool, false, List, [], ◌∷◌, ◌==◌, ◌||◌, ◌&&◌, not}
use Rattle.std.specs.Char.{is_ascii_digit, is_ascii_alphanumeric, is_ascii_whitespace}

-- an ASCII letter, a digit, `-` or `_`
abbrev pub is_word_byte : ℕ → Bool
is_word_byte b = is_ascii_alphanumeric b || (b == 45 || b == 95)

-- the text has a first byte, and it passes
abbrev pub begins : (ℕ → Bool) → List ℕ → Bool
begins test [] = false
begins test (b ∷ bytes) = test b

-- a point and a digit
abbrev pub begins_decimals : List ℕ → Bool
begins_decimals [] = false
begins_decimals (b ∷ bytes) = (b == 46) && begins is_ascii_digit bytes

-- no LF
abbrev pub is_line_byte : ℕ → Bool
is_line_byte b = not (b == 10)

-- no blank, no parenthesis and no `;`
abbrev pub is_inner_byte : ℕ → Bool
is_inner_byte b = not (is_ascii_whitespace b || ((b == 40) || ((b == 41) || (b == 59))))
