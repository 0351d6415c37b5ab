-- Words side by side in one text.
use Rattle.std.proofs.Common.{◌≡◌, ℕ, ◌+◌, ◌-◌, ◌≤◌, ◌<◌, List, [], ◌∷◌, ◌++◌, length, map, take, drop, refl, sym, ap, ◌∙◌, arith}
use Rattle.std.specs.Prelude.{Some, All, slice_get, slice_range}
use Rattle.std.proofs.Math.Seq.{drop-append_seam}
use Rattle.std.proofs.lemmas.Option.{get_or_from_slice_get}
use Rattle.std.proofs.lemmas.List.{append_assoc, append-nil, length-drop, map_push, take_all, take-append-le, drop-append-le, drop_all, drop_more}
use Rattle.std.proofs.lemmas.List.Elements.{All-head, All-tail}
use Rattle.pddl_token.specs.declared.token.Span.{Span}
use Rattle.pddl_token.specs.declared.token.TokenKind.{TokenKind}
use Rattle.pddl_scan.specs.declared.word_list.Mark.{Mark}
use Rattle.pddl_token.specs.Spelling.{PlacedWord}
use Rattle.pddl_scan.specs.WordLists.{IsMark, mark_view}

-- a word stays where more bytes follow
mark_kept : (text more : List ℕ) (m : Mark) → IsMark (length text) m → mark_view (text ++ more) m ≡ mark_view text m
mark_kept text more m is =
    let len : ℕ = m.span.end - m.span.start in
    let width : (m.begins + len) - m.begins ≡ len = omega arith in
    let bytes : slice_range (text ++ more) m.begins (m.begins + len) ≡ slice_range text m.begins (m.begins + len) =
    ap (take ((m.begins + len) - m.begins)) (drop-append-le m.begins text more (omega (arith, is.within)))
    ∙ take-append-le ((m.begins + len) - m.begins) (drop m.begins text) more (omega (arith, is.within, length-drop m.begins text)) in
    ap (λ (t : List ℕ). record { kind = m.kind; text = t; span = m.span }) bytes

marks_kept : (text more : List ℕ) (marks : List Mark) → All (IsMark (length text)) marks → map (mark_view (text ++ more)) marks ≡ map (mark_view text) marks
marks_kept text more [] are = refl
marks_kept text more (m ∷ marks) are =
    rw (mark_kept text more m (All-head (IsMark (length text)) m marks are), marks_kept text more marks (All-tail (IsMark (length text)) m marks are)) refl

-- the word of the bytes that were added
mark_added : (text bytes : List ℕ) (kind : TokenKind) (span : Span) → span.start + length bytes ≡ span.end
    → mark_view (text ++ bytes) (record { kind = kind; begins = length text; span = span }) ≡ record { kind = kind; text = bytes; span = span }
mark_added text bytes kind span whole =
    let len : ℕ = span.end - span.start in
    let bytes_are : slice_range (text ++ bytes) (length text) (length text + len) ≡ bytes =
    ap (take ((length text + len) - length text)) (drop-append_seam text bytes) ∙ take_all ((length text + len) - length text) bytes (omega (arith, whole)) in
    ap (λ (t : List ℕ). record { kind = kind; text = t; span = span }) bytes_are

-- a word more
pub word_pushed : (text new bytes : List ℕ) (marks all : List Mark) (kind : TokenKind) (begins : ℕ) (span : Span) → All (IsMark (length text)) marks → begins ≡ length text → new ≡ text ++ bytes
    → span.start + length bytes ≡ span.end → all ≡ marks ++ record { kind = kind; begins = begins; span = span } ∷ []
    → map (mark_view new) all ≡ map (mark_view text) marks ++ record { kind = kind; text = bytes; span = span } ∷ []
word_pushed text new bytes marks all kind begins span are begins_is new_is whole all_are =
    let m : Mark = record { kind = kind; begins = length text; span = span } in
    rw (all_are, new_is, begins_is) (map_push (mark_view (text ++ bytes)) marks m ∙ rw (marks_kept text bytes marks are, mark_added text bytes kind span whole) refl)

-- ---- words, one by one

-- the words that are left, one of them passed
pub words_on : (words front new whole : List PlacedWord) (n : ℕ) (w : PlacedWord) → n < length words → slice_get words n ≡ Some w → new ≡ front ++ w ∷ [] → front ++ drop n words ≡ whole → new ++ drop (n + 1) words ≡ whole
words_on words front new whole n w lt got new_is so_far =
    let left : drop n words ≡ w ∷ drop (n + 1) words = drop_more words n w lt ∙ ap (λ (v : PlacedWord). v ∷ drop (n + 1) words) (get_or_from_slice_get words n w w got) in
    ap (λ (t : List PlacedWord). t ++ drop (n + 1) words) new_is ∙ append_assoc front (w ∷ []) (drop (n + 1) words) ∙ ap (λ (t : List PlacedWord). front ++ t) (sym left) ∙ so_far

-- none is left
pub words_passed : (words front whole : List PlacedWord) (n : ℕ) → length words ≤ n → front ++ drop n words ≡ whole → front ≡ whole
words_passed words front whole n le so_far = sym (append-nil front) ∙ ap (λ (t : List PlacedWord). front ++ t) (sym (drop_all n words le)) ∙ so_far
