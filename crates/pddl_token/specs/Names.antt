-- Names, and the case of letters.
use Rattle.std.specs.Prelude.{◌≡◌, ℕ, List, [], ◌∷◌, map, take, Bool, true, false, ◌&&◌, ◌||◌, ◌==◌, Option, Some, None, if◌then◌else◌}
use Rattle.std.specs.Hash.{HashWrites}
use Rattle.std.specs.Char.{to_ascii_lowercase, is_ascii_lowercase, is_ascii_digit, is_ascii_alphabetic}
use Rattle.std.specs.List.{list_all, prefix_len}
use Rattle.pddl_token.specs.Bytes.{begins, is_word_byte}

-- a text with its ASCII letters in lower case
abbrev pub folded : List ℕ → List ℕ
folded = map to_ascii_lowercase

-- `a` to `z`
abbrev pub is_first_byte : ℕ → Bool
is_first_byte b = is_ascii_lowercase b

-- `a` to `z`, a digit, `-` or `_`
abbrev pub is_later_byte : ℕ → Bool
is_later_byte b = is_first_byte b || is_ascii_digit b || b == 45 || b == 95

-- the byte of a name in lower case that a byte stands for, or 0
abbrev pub name_byte : ℕ → ℕ
name_byte b = if is_later_byte (to_ascii_lowercase b) then to_ascii_lowercase b else 0

-- a name in lower case: a letter, then letters, digits, `-` and `_` (Kovacs, `<name>`)
abbrev pub is_name : List ℕ → Bool
is_name [] = false
is_name (b ∷ bytes) = is_first_byte b && list_all is_later_byte bytes

-- the name that a text spells: the folded text, where that is a name
abbrev pub name_of : List ℕ → Option (List ℕ)
name_of text = if is_name (folded text) then Some (folded text) else None

-- at the front of a text stands a name so long, as long as can be
pub record IsFrontName (text name : List ℕ) (len : ℕ) : Type 0 where
  pub letter : begins is_ascii_alphabetic text ≡ true
  pub len_is : len ≡ prefix_len is_word_byte text
  pub name_is : name_of (take len text) ≡ Some name

-- what a hasher is fed of a name: its bytes in one write
abbrev pub fed_name : List ℕ → HashWrites
fed_name name = name ∷ []
