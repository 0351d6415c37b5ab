-- The longest name at the front of a text.
use Rattle.std.proofs.Common.{◌≡◌, ℕ, ◌+◌, true, List, [], ◌∷◌, take, refl, arith}
use Rattle.std.proofs.Math.Numerals.{one-add}
use Rattle.std.specs.Char.{to_ascii_lowercase, is_ascii_alphabetic}
use Rattle.std.specs.List.{list_all, prefix_len}
use Rattle.std.proofs.lemmas.Bool.{cond_both}
use Rattle.std.proofs.lemmas.Bool.Decides.{nat_tests}
use Rattle.pddl_token.specs.Bytes.{begins, is_word_byte}
use Rattle.pddl_token.specs.Names.{folded, is_later_byte, is_name}
use Rattle.pddl_token.proofs.NameBytes.{first_letter}

-- a byte of a word may stand in a name
word_byte_folded : (b : ℕ) → is_word_byte b ≡ true → is_later_byte (to_ascii_lowercase b) ≡ true
word_byte_folded b word = grind (arith, nat_tests, word)

-- a letter may stand in a word
pub letter_is_word_byte : (b : ℕ) → is_ascii_alphabetic b ≡ true → is_word_byte b ≡ true
letter_is_word_byte b letter = grind (arith, nat_tests, letter)

-- the bytes of names at the front
front_later : (text : List ℕ) → list_all is_later_byte (folded (take (prefix_len is_word_byte text) text)) ≡ true
front_later [] = refl
front_later (b ∷ text) =
    let rest = front_later text in
    cond_both (is_word_byte b) (1 + prefix_len is_word_byte text) 0 (λ n. list_all is_later_byte (folded (take n (b ∷ text))) ≡ true)
    (λ yes. rw (one-add, word_byte_folded b yes) rest)
    (λ no. refl)

-- are a name where a letter is first
pub front_is_name : (text : List ℕ) → begins is_ascii_alphabetic text ≡ true → is_name (folded (take (prefix_len is_word_byte text) text)) ≡ true
front_is_name [] letter = absurd (cc)
front_is_name (b ∷ text) letter = rw (letter_is_word_byte b letter, one-add, first_letter b letter) (front_later text)
