-- The bytes of short names, read eight at a time.
use Rattle.std.proofs.Common.{◌≡◌, ℕ, List, ◌++◌, length, take, drop, ap, sym, ◌∙◌, arith}
use Rattle.std.proofs.lemmas.List.{take-append-drop, take_all, drop-drop, length-drop}

-- bytes are their words, of which the last begins inside the one before it
words_of : (bytes : List ℕ) → length bytes ≡ 22 → take 8 bytes ++ (take 8 (drop 8 bytes) ++ drop 2 (take 8 (drop 14 bytes))) ≡ bytes
words_of bytes room =
    let last : drop 2 (take 8 (drop 14 bytes)) ≡ drop 8 (drop 8 bytes) =
    ap (drop 2) (take_all 8 (drop 14 bytes) (omega (arith, length-drop 14 bytes, room))) ∙ drop-drop 2 14 bytes ∙ sym (drop-drop 8 8 bytes) in
    rw (last, take-append-drop 8 (drop 8 bytes)) (take-append-drop 8 bytes)

-- bytes whose words are the same
pub same_words : (a b : List ℕ) → length a ≡ 22 → length b ≡ 22 → take 8 (drop 0 a) ≡ take 8 (drop 0 b) → take 8 (drop 8 a) ≡ take 8 (drop 8 b) → take 8 (drop 14 a) ≡ take 8 (drop 14 b) → a ≡ b
same_words a b room_a room_b first second last =
    let words : take 8 a ++ (take 8 (drop 8 a) ++ drop 2 (take 8 (drop 14 a))) ≡ take 8 b ++ (take 8 (drop 8 b) ++ drop 2 (take 8 (drop 14 b))) = cc (first, second, last) in
    sym (words_of a room_a) ∙ words ∙ words_of b room_b
