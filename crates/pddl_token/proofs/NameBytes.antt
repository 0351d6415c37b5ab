-- The table of a name's bytes.
use Rattle.std.proofs.Common.{◌≡◌, ℕ, ◌<◌, true, false, List, [], ◌∷◌, length, get_or, map, refl, ap, ◌∙◌, slice_index_or, arith}
use Rattle.std.specs.Char.{to_ascii_lowercase, is_ascii_alphabetic}
use Rattle.std.specs.List.{list_all, range_with_len}
use Rattle.std.proofs.lemmas.Bool.Decides.{nat_tests}
use Rattle.std.proofs.lemmas.List.{get_or-map, length-map}
use Rattle.std.proofs.lemmas.List.Folds.{list_all_at}
use Rattle.std.proofs.lemmas.List.FromFn.{get_or-map-range_with_len}
use Rattle.pddl_token.specs.declared.name.TheConstants.{NAME_BYTES}
use Rattle.pddl_token.specs.Names.{folded, is_first_byte, is_later_byte, is_name, name_byte}

-- the table, computed
table : NAME_BYTES ≡ map name_byte (range_with_len 0 256)
table = refl

-- what stands at a byte in it
pub name_byte_at : (b : ℕ) → b < 256 → slice_index_or NAME_BYTES b 0 ≡ name_byte b
name_byte_at b lt = ap (λ t. slice_index_or t b 0) table ∙ get_or-map-range_with_len name_byte 0 256 b b 0 lt (omega arith)

no_byte : (b : ℕ) → name_byte b ≡ 0 → is_later_byte (to_ascii_lowercase b) ≡ false
no_byte b none = grind (arith, nat_tests, none)

-- a byte that stands in no name
pub no_byte_at : (text : List ℕ) (i : ℕ) → i < length text → name_byte (get_or text i 0) ≡ 0 → list_all is_later_byte (folded text) ≡ false
no_byte_at text i lt none =
    list_all_at is_later_byte (folded text) i 0 (rw (length-map text to_ascii_lowercase) lt) (rw (get_or-map to_ascii_lowercase text i 0 0 lt) (no_byte (get_or text i 0) none))

-- a letter is one that may be first
pub first_letter : (b : ℕ) → is_ascii_alphabetic b ≡ true → is_first_byte (to_ascii_lowercase b) ≡ true
first_letter b letter = grind (arith, nat_tests, letter)

-- where a letter is first, all bytes tell
pub name_by_bytes : (text : List ℕ) → is_ascii_alphabetic (get_or text 0 0) ≡ true → is_name (folded text) ≡ list_all is_later_byte (folded text)
name_by_bytes [] letter = letter
name_by_bytes (b ∷ text) letter = rw (first_letter b letter) refl

-- no letter is first
pub no_name : (text : List ℕ) → is_ascii_alphabetic (get_or text 0 0) ≡ false → is_name (folded text) ≡ false
no_name [] other = refl
no_name (b ∷ text) other = let first : is_first_byte (to_ascii_lowercase b) ≡ false = grind (arith, nat_tests, other) in rw first refl

-- nor is anything
pub no_bytes : (text : List ℕ) → length text < 1 → is_name (folded text) ≡ false
no_bytes [] none = refl
no_bytes (b ∷ text) none = absurd (omega (arith, none))
