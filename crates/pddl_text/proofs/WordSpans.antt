-- The words that spell a text are its slices, in order.
use Rattle.std.proofs.Common.{◌≡◌, ◌≤◌, ◌<◌, ℕ, ◌+◌, ◌-◌, List, [], ◌∷◌, ◌++◌, length, take, drop, All, refl, sym, ap, subst, ◌∙◌, arith}
use Rattle.std.specs.Prelude.{AllPairs}
use Rattle.std.proofs.lemmas.List.{append_assoc, length-append, take_at, drop_at}
use Rattle.std.proofs.lemmas.List.Elements.{All-nil, All-cons}
use Rattle.std.proofs.lemmas.List.Kept.{AllPairs-cons}
use Rattle.pddl_token.specs.Spelling.{Word, PlacedWord, placed, Part, gap, word, InTurn, words_from, Spells}
use Rattle.pddl_text.specs.Spans.{IsSlice, EndsBefore}
use Rattle.pddl_scan.proofs.OneReading.{part_nonempty, text_of}

-- a word behind these bytes is the slice at its place
placed_slice : (before after : List ℕ) (w : Word) → 0 < length w.text → IsSlice (before ++ (w.text ++ after)) (placed (length before) w)
placed_slice before after w some =
    let at : ℕ = length before in
    let len : at + length w.text - at ≡ length w.text = omega arith in
    record {
      nonempty = omega (arith, some);
      in_range = omega (arith, length-append before (w.text ++ after), length-append w.text after);
      text_is = sym (ap (λ (n : ℕ). take n (drop at (before ++ (w.text ++ after)))) len ∙ ap (take (length w.text)) (drop_at before (w.text ++ after) at refl) ∙ take_at w.text after (length w.text) refl);
    }

-- words behind these bytes are slices
slices_from : (before : List ℕ) (parts : List Part) (rest : List ℕ) → InTurn parts rest → All (IsSlice (before ++ (text_of parts ++ rest))) (words_from (length before) parts)
slices_from before [] rest in_turn = All-nil (IsSlice (before ++ rest))
slices_from before (gap text ∷ parts) rest in_turn =
    let regroup = append_assoc before text (text_of parts ++ rest) ∙ ap (λ (t : List ℕ). before ++ t) (sym (append_assoc text (text_of parts) rest)) in
    subst (λ (n : ℕ). All (IsSlice (before ++ ((text ++ text_of parts) ++ rest))) (words_from n parts)) (length-append before text)
    (subst (λ (t : List ℕ). All (IsSlice t) (words_from (length (before ++ text)) parts)) regroup (slices_from (before ++ text) parts rest in_turn.1))
slices_from before (word w ∷ parts) rest in_turn =
    let regroup = append_assoc before w.text (text_of parts ++ rest) ∙ ap (λ (t : List ℕ). before ++ t) (sym (append_assoc w.text (text_of parts) rest)) in
    let whole : List ℕ = before ++ ((w.text ++ text_of parts) ++ rest) in
    let here = subst (λ (t : List ℕ). IsSlice (before ++ t) (placed (length before) w)) (sym (append_assoc w.text (text_of parts) rest)) (placed_slice before (text_of parts ++ rest) w (part_nonempty (word w) _ in_turn.0)) in
    All-cons (IsSlice whole) (placed (length before) w) (words_from (length before + length w.text) parts) here
    (subst (λ (n : ℕ). All (IsSlice whole) (words_from n parts)) (length-append before w.text)
    (subst (λ (t : List ℕ). All (IsSlice t) (words_from (length (before ++ w.text)) parts)) regroup (slices_from (before ++ w.text) parts rest in_turn.1)))

-- words that spell a text are its slices
pub are_slices : (words : List PlacedWord) (text : List ℕ) → Spells words text → All (IsSlice text) words
are_slices words text p =
    let text_is : text ≡ text_of p.spelled.parts ++ p.rest = p.text_is ∙ ap (λ (t : List ℕ). t ++ p.rest) p.spelled.front_is in
    rw (text_is, p.spelled.words_are) (slices_from [] p.spelled.parts p.rest p.spelled.in_turn)

-- words from a place on begin there or later
begin_later : (parts : List Part) (at n : ℕ) → at ≤ n → All (λ (w : PlacedWord). at ≤ w.span.start) (words_from n parts)
begin_later [] at n le = All-nil (λ (w : PlacedWord). at ≤ w.span.start)
begin_later (gap text ∷ parts) at n le = begin_later parts at (n + length text) (omega (arith, le))
begin_later (word w ∷ parts) at n le = All-cons (λ (v : PlacedWord). at ≤ v.span.start) (placed n w) (words_from (n + length w.text) parts) le (begin_later parts at (n + length w.text) (omega (arith, le)))

-- words from a place on stand in order
in_order_from : (parts : List Part) (at : ℕ) → AllPairs EndsBefore (words_from at parts)
in_order_from [] at = λ i j d lt in_range. absurd (omega (arith, in_range))
in_order_from (gap text ∷ parts) at = in_order_from parts (at + length text)
in_order_from (word w ∷ parts) at = AllPairs-cons EndsBefore (placed at w) (words_from (at + length w.text) parts) (begin_later parts (at + length w.text) (at + length w.text) (omega arith)) (in_order_from parts (at + length w.text))

-- words that spell a text stand in order
pub are_in_order : (words : List PlacedWord) (text : List ℕ) → Spells words text → AllPairs EndsBefore words
are_in_order words text p = rw p.spelled.words_are (in_order_from p.spelled.parts 0)
