-- What stays true while a text is lexed, and what follows at the end.
use Rattle.std.proofs.Common.{◌≡◌, ℕ, ◌+◌, ◌≤◌, ◌<◌, true, false, List, [], ◌∷◌, ◌++◌, length, take, drop, refl, sym, ap, subst, ◌∙◌, arith, inl, inr}
use Rattle.std.specs.Prelude.{◌==◌, ◌||◌, ◌⊎◌}
use Rattle.std.specs.List.{prefix_len}
use Rattle.std.specs.Char.{is_ascii_digit, is_ascii_whitespace}
use Rattle.std.proofs.lemmas.Bool.{cases_lt}
use Rattle.std.proofs.lemmas.List.{append_assoc, append-nil, take-append-drop, drop-drop, drop_all, length-append, length-take-le, length-drop, flat_map_more}
use Rattle.std.proofs.Math.Seq.{take-add}
use Rattle.std.proofs.lemmas.List.Elements.{All-head, All-tail, All-cons, All-push}
use Rattle.pddl_token.specs.declared.token.TokenKind.{TokenKind}
use Rattle.pddl_token.specs.Bytes.{is_line_byte, begins}
use Rattle.pddl_token.specs.Spelling.{PlacedWord, placed, Part, gap, word, spelling, IsOpenComment, IsPart, InTurn, words_from, SpelledUpTo, Spells}
use Rattle.pddl_scan.specs.Faults.{IsLongestNumber, IsFaulty, IsLeftmost, IsValued, AreValued}
use Rattle.pddl_scan.specs.Inner.Reading.{IsGapAt, IsWordAt, word_at}
use Rattle.pddl_scan.specs.Scanning.{LexedTo}
use Rattle.pddl_token.proofs.Runs.{run_len}
use Rattle.pddl_scan.proofs.Numbers.{number_begins}
use Rattle.pddl_scan.proofs.FirstPart.{first_part, part_first}
use Rattle.pddl_scan.proofs.OneReading.{text_of, part_nonempty, continues, IsValuedPart, no_fault}

-- ---- one part more

-- one part more stands in turn
in_turn_push : (parts : List Part) (part : Part) (after : List ℕ) → InTurn parts (spelling part ++ after) → IsPart part after → InTurn (parts ++ part ∷ []) after
in_turn_push [] part after in_turn at_part = (at_part, tt)
in_turn_push (first ∷ parts) part after in_turn at_part =
    let rest : text_of parts ++ (spelling part ++ after) ≡ text_of (parts ++ part ∷ []) ++ after = sym (append_assoc (text_of parts) (spelling part) after) ∙ ap (λ (t : List ℕ). t ++ after) (flat_map_more spelling [] parts part) in
    (subst (IsPart first) rest in_turn.0, in_turn_push parts part after in_turn.1 at_part)

-- the words of joined parts
words_from-append : (at : ℕ) (parts more : List Part) → words_from at (parts ++ more) ≡ words_from at parts ++ words_from (at + length (text_of parts)) more
words_from-append at [] more = ap (λ (n : ℕ). words_from n more) (omega arith)
words_from-append at (gap text ∷ parts) more =
    let n : at + length text + length (text_of parts) ≡ at + length (text_of (gap text ∷ parts)) = omega (arith, length-append text (text_of parts)) in
    words_from-append (at + length text) parts more ∙ ap (λ (n : ℕ). words_from (at + length text) parts ++ words_from n more) n
words_from-append at (word w ∷ parts) more =
    let n : at + length w.text + length (text_of parts) ≡ at + length (text_of (word w ∷ parts)) = omega (arith, length-append w.text (text_of parts)) in
    ap (λ (ws : List PlacedWord). placed at w ∷ ws) (words_from-append (at + length w.text) parts more ∙ ap (λ (n : ℕ). words_from (at + length w.text) parts ++ words_from n more) n)

-- one part more is spelled
pub spelled_push : (words : List PlacedWord) (front after : List ℕ) (part : Part) → SpelledUpTo words front (spelling part ++ after) → IsPart part after
    → SpelledUpTo (words ++ words_from (length front) (part ∷ [])) (front ++ spelling part) after
spelled_push words front after part spelled at_part = record {
  parts = spelled.parts ++ part ∷ [];
  in_turn = in_turn_push spelled.parts part after spelled.in_turn at_part;
  front_is = ap (λ (t : List ℕ). t ++ spelling part) spelled.front_is ∙ flat_map_more spelling [] spelled.parts part;
  words_are =
      ap (λ (ws : List PlacedWord). ws ++ words_from (length front) (part ∷ [])) spelled.words_are
      ∙ ap (λ (n : ℕ). words_from 0 spelled.parts ++ words_from n (part ∷ [])) (ap (λ (t : List ℕ). length t) spelled.front_is ∙ omega arith)
      ∙ sym (words_from-append 0 spelled.parts (part ∷ []));
}

-- ---- a fault doesn't stand before the end of a reading

-- a part among valued words is valued
valued_at : (at : ℕ) (parts : List Part) (part : Part) (more : List Part) → AreValued (words_from at (parts ++ part ∷ more)) → IsValuedPart part
valued_at at [] (gap text) more valued = tt
valued_at at [] (word w) more valued = All-head (λ (v : PlacedWord). IsValued v.kind v.text) (placed at w) (words_from (at + length w.text) more) valued
valued_at at (gap text ∷ parts) part more valued = valued_at (at + length text) parts part more valued
valued_at at (word w ∷ parts) part more valued = valued_at (at + length w.text) parts part more (All-tail (λ (v : PlacedWord). IsValued v.kind v.text) (placed at w) (words_from (at + length w.text) (parts ++ part ∷ more)) valued)

-- no fault stands where a longer reading goes on
pub fault_ahead : (ps qs : List Part) (a b : List ℕ) → InTurn ps a → InTurn qs b → text_of ps ++ a ≡ text_of qs ++ b → length (text_of ps) < length (text_of qs) → AreValued (words_from 0 qs) → IsFaulty a → ⊥
fault_ahead ps qs a b at_ps at_qs same lt valued faulty =
    let on = continues ps qs a b at_ps at_qs same (omega arith) in
    by_more on.more on.in_turn on.parts_are on.after_is
  where
    by_more : (more : List Part) → InTurn more b → qs ≡ ps ++ more → a ≡ text_of more ++ b → ⊥
    by_more [] in_turn parts_are after_is = absurd (omega (arith, ap (λ (x : List Part). length (text_of x)) parts_are, ap (λ (x : List Part). length (text_of x)) (append-nil ps)))
    by_more (part ∷ more) in_turn parts_are after_is =
        no_fault part (text_of more ++ b) a in_turn.0 (valued_at 0 ps part more (subst (λ x. AreValued (words_from 0 x)) parts_are valued)) (after_is ∙ append_assoc (spelling part) (text_of more) b) faulty

-- ---- the end of a text

-- nothing is left but a comment without LF
abbrev pub IsEnd : List ℕ → Type 0
IsEnd rest = (rest ≡ []) ⊎ IsOpenComment rest

-- no part stands at the end
no_part : (part : Part) (after rest : List ℕ) → IsPart part after → IsEnd rest → rest ≡ spelling part ++ after → ⊥
no_part part after rest at_part (inl is_nil) rest_is =
    absurd (omega (arith, part_nonempty part after at_part, length-append (spelling part) after, ap (λ (t : List ℕ). length t) is_nil, ap (λ (t : List ℕ). length t) rest_is))
no_part (word w) after rest at_part (inr tail) rest_is =
    let read = sym (ap first_part (sym tail.2 ∙ rest_is) ∙ part_first (word w) after at_part) in absurd (cc read)
no_part (gap text) after rest (inl blank) (inr tail) rest_is =
    let byte = ap (begins is_ascii_whitespace) (sym tail.2 ∙ rest_is ∙ ap (λ (t : List ℕ). t ++ after) blank.2) in
    absurd (cc (byte, blank.1))
no_part (gap text) after rest (inr comment) (inr tail) rest_is =
    let bytes = comment.0 in
    let whole : prefix_len is_line_byte (59 ∷ tail.0 ++ []) ≡ length (59 ∷ tail.0) = run_len is_line_byte (59 ∷ tail.0) [] (All-cons (λ x. is_line_byte x ≡ true) 59 tail.0 refl tail.1) refl in
    let line : prefix_len is_line_byte (59 ∷ bytes ++ 10 ∷ after) ≡ length (59 ∷ bytes) = run_len is_line_byte (59 ∷ bytes) (10 ∷ after) (All-cons (λ x. is_line_byte x ≡ true) 59 bytes refl comment.1) refl in
    let same : 59 ∷ tail.0 ++ [] ≡ 59 ∷ bytes ++ 10 ∷ after = append-nil (59 ∷ tail.0) ∙ sym tail.2 ∙ rest_is ∙ ap (λ (t : List ℕ). t ++ after) comment.2 ∙ ap (λ (t : List ℕ). 59 ∷ t) (append_assoc bytes (10 ∷ []) after) in
    absurd (omega (arith, whole, line, ap (prefix_len is_line_byte) same, ap (λ (t : List ℕ). length t) same, length-append (59 ∷ bytes) (10 ∷ after), length-append (59 ∷ tail.0) []))

-- a number begins with a digit
no_number : (number after rest : List ℕ) → IsLongestNumber number after rest → begins is_ascii_digit rest ≡ false → ⊥
no_number [] after rest longest none = absurd (cc (number_begins [] longest.is_number))
no_number (b ∷ number) after rest longest none = let digit = number_begins (b ∷ number) longest.is_number in let first = ap (begins is_ascii_digit) longest.rest_is in absurd (cc (digit, first, none))

-- and no fault
end_is_good : (rest : List ℕ) → IsEnd rest → IsFaulty rest → ⊥
end_is_good rest (inl is_nil) (inl stray) = absurd (omega (arith, stray.some_byte, ap (λ (t : List ℕ). length t) is_nil))
end_is_good rest (inl is_nil) (inr (inl glued)) = no_number glued.number glued.after rest glued.longest (ap (begins is_ascii_digit) is_nil)
end_is_good rest (inl is_nil) (inr (inr out)) = no_number out.number out.after rest out.longest (ap (begins is_ascii_digit) is_nil)
end_is_good rest (inr tail) (inl stray) = let byte = ap (begins (λ b. is_ascii_whitespace b || (b == 59))) tail.2 in absurd (cc (byte, stray.no_gap))
end_is_good rest (inr tail) (inr (inl glued)) = no_number glued.number glued.after rest glued.longest (ap (begins is_ascii_digit) tail.2)
end_is_good rest (inr tail) (inr (inr out)) = no_number out.number out.after rest out.longest (ap (begins is_ascii_digit) tail.2)

-- ---- laws of whole texts

-- two readings spell one text
same_text : (words others : List PlacedWord) (text f a g b : List ℕ) (p : SpelledUpTo words f a) (q : SpelledUpTo others g b) → text ≡ f ++ a → text ≡ g ++ b → text_of p.parts ++ a ≡ text_of q.parts ++ b
same_text words others text f a g b p q e d = ap (λ (t : List ℕ). t ++ a) (sym p.front_is) ∙ sym e ∙ d ∙ ap (λ (t : List ℕ). t ++ b) q.front_is

-- what is reached can't go on beyond the end of a whole reading
end_reached : (ps qs : List Part) (a b : List ℕ) → InTurn ps a → InTurn qs b → text_of ps ++ a ≡ text_of qs ++ b → IsEnd b → length (text_of qs) ≤ length (text_of ps) → (ps ≡ qs) × (a ≡ b)
end_reached ps qs a b at_ps at_qs same ends le =
    let on = continues qs ps b a at_qs at_ps (sym same) le in
    by_more on.more on.in_turn on.parts_are on.after_is
  where
    by_more : (more : List Part) → InTurn more a → ps ≡ qs ++ more → b ≡ text_of more ++ a → (ps ≡ qs) × (a ≡ b)
    by_more [] in_turn parts_are after_is = (parts_are ∙ append-nil qs, sym after_is)
    by_more (part ∷ more) in_turn parts_are after_is = absurd (no_part part (text_of more ++ a) b in_turn.0 ends (after_is ∙ append_assoc (spelling part) (text_of more) a))

-- two lists of words that spell a text are one
pub one_spelling : (words others : List PlacedWord) (text : List ℕ) → Spells words text → Spells others text → words ≡ others
one_spelling words others text p q =
    let same = same_text words others text p.front p.rest q.front q.rest p.spelled q.spelled p.text_is q.text_is in
    let parts_are : p.spelled.parts ≡ q.spelled.parts =
    elim (cases_lt (length (text_of p.spelled.parts)) (length (text_of q.spelled.parts))) [
      | inl lt ↦ sym (end_reached q.spelled.parts p.spelled.parts q.rest p.rest q.spelled.in_turn p.spelled.in_turn (sym same) p.ends (omega arith)).0
      | inr le ↦ (end_reached p.spelled.parts q.spelled.parts p.rest q.rest p.spelled.in_turn q.spelled.in_turn same q.ends le).0
    ] in
    p.spelled.words_are ∙ ap (words_from 0) parts_are ∙ sym q.spelled.words_are

-- a fault in reach leaves no words that spell the text
pub no_other : (words others : List PlacedWord) (text front after : List ℕ) → text ≡ front ++ after → SpelledUpTo words front after → IsFaulty after → Spells others text → AreValued others → ⊥
no_other words others text front after text_is p faulty q valued =
    let same = same_text words others text front after q.front q.rest p q.spelled text_is q.text_is in
    elim (cases_lt (length (text_of p.parts)) (length (text_of q.spelled.parts))) [
      | inl lt ↦ fault_ahead p.parts q.spelled.parts after q.rest p.in_turn q.spelled.in_turn same lt (subst AreValued q.spelled.words_are valued) faulty
      | inr le ↦ let reached = end_reached p.parts q.spelled.parts after q.rest p.in_turn q.spelled.in_turn same q.ends le in end_is_good after (subst IsEnd (sym reached.1) q.ends) faulty
    ]

-- ---- the loop

-- the place behind the next part
split_on : (text : List ℕ) (at len : ℕ) → take (at + len) text ≡ take at text ++ take len (drop at text)
split_on text at len = take-add at len text

-- the words spell the text up to behind the next part
spelled_on : (text : List ℕ) (words : List PlacedWord) (at len : ℕ) (part : Part) → LexedTo text words at → len ≤ length (drop at text) → spelling part ≡ take len (drop at text) → IsPart part (drop len (drop at text))
    → SpelledUpTo (words ++ words_from at (part ∷ [])) (take (at + len) text) (drop (at + len) text)
spelled_on text words at len part lexed fits part_is at_part =
    let rest : List ℕ = drop at text in
    let rest_is : rest ≡ spelling part ++ drop len rest = sym (take-append-drop len rest) ∙ ap (λ (t : List ℕ). t ++ drop len rest) (sym part_is) in
    let before : SpelledUpTo words (take at text) (spelling part ++ drop len rest) = subst (SpelledUpTo words (take at text)) rest_is lexed.spelled in
    let on = spelled_push words (take at text) (drop len rest) part before at_part in
    let front_is : take at text ++ spelling part ≡ take (at + len) text = ap (λ (t : List ℕ). take at text ++ t) part_is ∙ sym (split_on text at len) in
    let start_is : length (take at text) ≡ at = length-take-le at text lexed.in_range in
    subst (λ (n : ℕ). SpelledUpTo (words ++ words_from n (part ∷ [])) (take (at + len) text) (drop (at + len) text)) start_is
    (subst (λ (t : List ℕ). SpelledUpTo (words ++ words_from (length (take at text)) (part ∷ [])) t (drop (at + len) text)) front_is
    (subst (SpelledUpTo (words ++ words_from (length (take at text)) (part ∷ [])) (take at text ++ spelling part)) (drop-drop len at text) on))

-- the loop passes a gap
pub gap_lexed : (text : List ℕ) (words : List PlacedWord) (at len : ℕ) → LexedTo text words at → IsGapAt len (drop at text) → LexedTo text words (at + len)
gap_lexed text words at len lexed here = record {
  in_range = omega (arith, here.in_range, length-drop at text, lexed.in_range);
  spelled = subst (λ ws. SpelledUpTo ws (take (at + len) text) (drop (at + len) text)) (append-nil words) (spelled_on text words at len (gap (take len (drop at text))) lexed here.in_range refl here.is_part);
  valued = lexed.valued;
}

-- the loop passes a word
pub word_lexed : (text : List ℕ) (words : List PlacedWord) (at len : ℕ) (kind : TokenKind) (spelled : List ℕ) → LexedTo text words at → IsWordAt kind len (drop at text) → spelled ≡ take len (drop at text)
    → LexedTo text (words ++ record { kind = kind; text = spelled; span = record { start = at; end = at + len } } ∷ []) (at + len)
word_lexed text words at len kind spelled lexed here text_is =
    let rest : List ℕ = drop at text in
    let w : PlacedWord = record { kind = kind; text = spelled; span = record { start = at; end = at + len } } in
    let len_is : length (take len rest) ≡ len = length-take-le len rest here.in_range in
    let w_is : placed at (word_at kind len rest) ≡ w = (λ i. record { kind = kind; text = sym text_is i; span = record { start = at; end = at + len_is i } }) in
    record {
      in_range = omega (arith, here.in_range, length-drop at text, lexed.in_range);
      spelled = subst (λ v. SpelledUpTo (words ++ v ∷ []) (take (at + len) text) (drop (at + len) text)) w_is (spelled_on text words at len (word (word_at kind len rest)) lexed here.in_range refl here.is_part);
      valued = All-push (λ (v : PlacedWord). IsValued v.kind v.text) words w lexed.valued (subst (IsValued kind) (sym text_is) here.valued);
    }

-- the loop has passed the whole text
pub lexed_to_end : (text : List ℕ) (words : List PlacedWord) (at : ℕ) → LexedTo text words at → length text ≤ at → Spells words text
lexed_to_end text words at lexed le = record {
  front = take at text;
  rest = drop at text;
  text_is = sym (take-append-drop at text);
  spelled = lexed.spelled;
  ends = inl (drop_all at text le);
}

-- the loop has come to a last comment
pub lexed_to_comment : (text : List ℕ) (words : List PlacedWord) (at : ℕ) → LexedTo text words at → IsOpenComment (drop at text) → Spells words text
lexed_to_comment text words at lexed tail = record {
  front = take at text;
  rest = drop at text;
  text_is = sym (take-append-drop at text);
  spelled = lexed.spelled;
  ends = inr tail;
}

-- a fault that the loop comes to is the leftmost
pub leftmost_fault : (Fault : List ℕ → Type 0) (text : List ℕ) (words : List PlacedWord) (at : ℕ) → LexedTo text words at → Fault (drop at text) → IsLeftmost Fault text at
leftmost_fault Fault text words at lexed fault = record {
  reached = (words, lexed.spelled);
  fault = fault;
  leftmost = λ earlier lt reached faulty.
      let theirs = reached.1 in
      let ours = lexed.spelled in
      let same = same_text reached.0 words text (take earlier text) (drop earlier text) (take at text) (drop at text) theirs ours (sym (take-append-drop earlier text)) (sym (take-append-drop at text)) in
      let earlier_len = ap (λ (t : List ℕ). length t) theirs.front_is in
      let at_len = ap (λ (t : List ℕ). length t) ours.front_is in
      fault_ahead theirs.parts ours.parts (drop earlier text) (drop at text) theirs.in_turn ours.in_turn same
      (omega (arith, earlier_len, at_len, length-take-le at text lexed.in_range, length-take-le earlier text (omega (arith, lexed.in_range))))
      (subst AreValued ours.words_are lexed.valued) faulty;
}
