-- What stands in a text that ends at a blank, a parenthesis or `;` stands there whatever follows.
use Rattle.std.proofs.Common.{◌≡◌, ℕ, ◌+◌, ◌<◌, Bool, true, false, ltb, List, [], ◌∷◌, ◌++◌, length, take, drop, refl, sym, ap, subst, ◌∙◌, arith, inl, inr, get_or, drop-cons, suc}
use Rattle.std.specs.Prelude.{◌==◌, ◌⊎◌}
use Rattle.std.specs.List.{prefix_len, AllPass}
use Rattle.std.specs.Char.{is_ascii_digit, is_ascii_alphabetic}
use Rattle.std.proofs.lemmas.Bool.{cond_both, cases_Bool, false_from_ne_true, ltb-true}
use Rattle.std.proofs.lemmas.Bool.Decides.{nat_tests}
use Rattle.std.proofs.lemmas.List.{length-append, length-drop, take-append-le, drop-append-le, append-nil, append_assoc, take_more}
use Rattle.std.proofs.Math.Numerals.{add-one}
use Rattle.std.proofs.lemmas.List.Elements.{All-cons}
use Rattle.pddl_token.specs.declared.token.TokenKind.TheVariants.{Name}
use Rattle.pddl_scan.specs.declared.bytes.ByteClass.{ByteClass}
use Rattle.pddl_scan.specs.declared.bytes.ByteClass.TheVariants as classes
use Rattle.pddl_scan.specs.declared.next.Next.{Next}
use Rattle.pddl_scan.specs.declared.next.Next.TheVariants as next
use Rattle.pddl_token.specs.Bytes.{is_line_byte, is_word_byte, is_inner_byte, begins, begins_decimals}
use Rattle.pddl_scan.specs.Inner.ByteClass.{class_of}
use Rattle.pddl_scan.specs.Inner.Reading.{number_len, next_comment, next_number, next_by, next_of, Reads}
use Rattle.pddl_scan.specs.Inner.Parts.{IsEnded, ReadsOn, Settles}
use Rattle.pddl_scan.proofs.Classes.{Says, class_says}
use Rattle.pddl_scan.proofs.NextReads.{next_reads}

-- ---- runs

pub stops_in : (p : ℕ → Bool) (front : List ℕ) (last : ℕ) → p last ≡ false → prefix_len p (front ++ last ∷ []) < length (front ++ last ∷ [])
stops_in p [] last stops = rw stops (omega arith)
stops_in p (b ∷ front) last stops =
    let ih = stops_in p front last stops in
    cond_both (p b) (1 + prefix_len p (front ++ last ∷ [])) 0 (λ n. n < length (b ∷ front ++ last ∷ [])) (λ passes. omega (arith, ih)) (λ fails. omega arith)

-- a run of bytes that are held back stops inside
stops : (p : ℕ → Bool) (text : List ℕ) → ((b : ℕ) → is_inner_byte b ≡ false → p b ≡ false) → IsEnded text → prefix_len p text < length text
stops p text fails ended = subst (λ t. prefix_len p t < length t) (sym ended.text_is) (stops_in p ended.front ended.last (fails ended.last ended.ends))

prefix_on : (p : ℕ → Bool) (text more : List ℕ) → prefix_len p text < length text → prefix_len p (text ++ more) ≡ prefix_len p text
prefix_on p [] more lt = absurd (omega (arith, lt))
prefix_on p (b ∷ text) more lt =
    let on : prefix_len p text < length text → prefix_len p (text ++ more) ≡ prefix_len p text = prefix_on p text more in
    elim (cases_Bool (p b)) [
      | inl passes ↦ let lt2 = rw passes at lt in rw passes (ap (λ (n : ℕ). 1 + n) (on (omega (arith, lt2))))
      | inr fails ↦ rw fails refl
    ]

no_word_byte : (b : ℕ) → is_inner_byte b ≡ false → is_word_byte b ≡ false
no_word_byte b e = grind (arith, nat_tests)

no_digit : (b : ℕ) → is_inner_byte b ≡ false → is_ascii_digit b ≡ false
no_digit b e = grind (arith, nat_tests)

no_point : (b : ℕ) → is_inner_byte b ≡ false → (b == 46) ≡ false
no_point b e = grind (arith, nat_tests)

word_run : (text more : List ℕ) → IsEnded text → prefix_len is_word_byte (text ++ more) ≡ prefix_len is_word_byte text
word_run text more ended = prefix_on is_word_byte text more (stops is_word_byte text no_word_byte ended)

-- ---- ends of texts

nonempty : (text : List ℕ) → IsEnded text → 0 < length text
nonempty text ended = omega (arith, ap (λ (t : List ℕ). length t) ended.text_is, length-append ended.front (ended.last ∷ []))

pub ended_drop : (n : ℕ) (text : List ℕ) → IsEnded text → n < length text → IsEnded (drop n text)
ended_drop n text ended lt = record {
  front = drop n ended.front;
  last = ended.last;
  text_is = ap (drop n) ended.text_is ∙ drop-append-le n ended.front (ended.last ∷ []) (omega (arith, lt, ap (λ (t : List ℕ). length t) ended.text_is, length-append ended.front (ended.last ∷ [])));
  ends = ended.ends;
}

-- one byte that ends a text is none that is held back
one_ends : (p : ℕ → Bool) (b : ℕ) → ((c : ℕ) → is_inner_byte c ≡ false → p c ≡ false) → IsEnded (b ∷ []) → p b ≡ false
one_ends p b fails ended = false_from_ne_true (p b) (λ passes. let lt = rw passes at (stops p (b ∷ []) fails ended) in omega (arith, lt))

same_test : (b : ℕ) → is_inner_byte b ≡ false → is_inner_byte b ≡ false
same_test b e = e

ended_tail : (b : ℕ) (bytes : List ℕ) → is_inner_byte b ≡ true → IsEnded (b ∷ bytes) → IsEnded bytes
ended_tail b [] held ended = absurd (cc (held, one_ends is_inner_byte b same_test ended))
ended_tail b (c ∷ bytes) held ended = ended_drop 1 (b ∷ c ∷ bytes) ended (omega arith)

begins_on : (p : ℕ → Bool) (text more : List ℕ) → IsEnded text → begins p (text ++ more) ≡ begins p text
begins_on p [] more ended = absurd (omega (arith, nonempty [] ended))
begins_on p (b ∷ text) more ended = refl

decimals_on : (text more : List ℕ) → IsEnded text → begins_decimals (text ++ more) ≡ begins_decimals text
decimals_on [] more ended = absurd (omega (arith, nonempty [] ended))
decimals_on (b ∷ []) more ended = rw (one_ends (λ c. c == 46) b no_point ended) refl
decimals_on (b ∷ c ∷ text) more ended = refl

-- ---- numbers

-- a point and a digit stand before the end
point_inside : (text : List ℕ) → IsEnded text → begins_decimals text ≡ true → 1 < length text
point_inside [] ended point = absurd (omega (arith, nonempty [] ended))
point_inside (b ∷ []) ended point = absurd (let e = rw (one_ends (λ c. c == 46) b no_point ended) at point in cc e)
point_inside (b ∷ c ∷ text) ended point = omega arith

record NumberOn (text more : List ℕ) : Type 0 where
  len : number_len (text ++ more) ≡ number_len text
  inside : number_len text < length text

number_on : (text more : List ℕ) → IsEnded text → NumberOn text more
unfolding number_len
number_on text more ended =
    let whole : ℕ = prefix_len is_ascii_digit text in
    let lt : whole < length text = stops is_ascii_digit text no_digit ended in
    let same : prefix_len is_ascii_digit (text ++ more) ≡ whole = prefix_on is_ascii_digit text more lt in
    let rest_ended : IsEnded (drop whole text) = ended_drop whole text ended lt in
    let rest : drop whole (text ++ more) ≡ drop whole text ++ more = drop-append-le whole text more (omega (arith, lt)) in
    let point : begins_decimals (drop whole (text ++ more)) ≡ begins_decimals (drop whole text) = ap begins_decimals rest ∙ decimals_on (drop whole text) more rest_ended in
    elim (cases_Bool (begins_decimals (drop whole text))) [
      | inl has ↦
          let lt2 : whole + 1 < length text = omega (arith, point_inside (drop whole text) rest_ended has, length-drop whole text) in
          let decimals_ended : IsEnded (drop (whole + 1) text) = ended_drop (whole + 1) text ended lt2 in
          let decimals : prefix_len is_ascii_digit (drop (whole + 1) (text ++ more)) ≡ prefix_len is_ascii_digit (drop (whole + 1) text)
          = ap (prefix_len is_ascii_digit) (drop-append-le (whole + 1) text more (omega (arith, lt2))) ∙ prefix_on is_ascii_digit (drop (whole + 1) text) more (stops is_ascii_digit (drop (whole + 1) text) no_digit decimals_ended) in
          let fits = stops is_ascii_digit (drop (whole + 1) text) no_digit decimals_ended in
          record {
            len = rw (same, point, has, decimals) refl;
            inside = rw has (omega (arith, fits, length-drop (whole + 1) text, lt2));
          }
      | inr has ↦ record { len = rw (same, point, has) refl; inside = rw has lt }
    ]

number_next : (text more : List ℕ) → IsEnded text → next_number (text ++ more) ≡ next_number text
unfolding next_number
number_next text more ended =
    let it = number_on text more ended in
    let len : ℕ = number_len text in
    let front : take len (text ++ more) ≡ take len text = take-append-le len text more (omega (arith, it.inside)) in
    let word_byte : begins is_word_byte (drop len (text ++ more)) ≡ begins is_word_byte (drop len text)
    = ap (begins is_word_byte) (drop-append-le len text more (omega (arith, it.inside))) ∙ begins_on is_word_byte (drop len text) more (ended_drop len text ended it.inside) in
    rw (it.len, word_byte, front) refl

-- ---- any part

abbrev Same : List ℕ → List ℕ → Next → Next → Type 0
Same text more here on = (here ≡ next.OpenComment) ⊎ (on ≡ here)

comment_next : (text more : List ℕ) → Same text more (next_comment text) (next_comment (text ++ more))
unfolding next_comment
comment_next text more =
    let len : ℕ = prefix_len is_line_byte text in
    elim (cases_Bool (ltb len (length text))) [
      | inl lt ↦ inr (let same = prefix_on is_line_byte text more (ltb-true _ _ lt) in rw (same, lt, lt_on len (ltb-true _ _ lt)) refl)
      | inr ge ↦ inl (rw ge refl)
    ]
  where
    lt_on : (n : ℕ) → n < length text → ltb n (length (text ++ more)) ≡ true
    lt_on n lt = grind (arith, nat_tests, length-append text more)

held : (b m : ℕ) → b ≡ m → is_inner_byte m ≡ true → is_inner_byte b ≡ true
held b m e passes = ap is_inner_byte e ∙ passes

angle_held : (b : ℕ) → (b ≡ 60) ⊎ (b ≡ 62) → is_inner_byte b ≡ true
angle_held b (inl e) = held b 60 e refl
angle_held b (inr e) = held b 62 e refl

same_by : (class : ByteClass) (b : ℕ) (bytes more : List ℕ) → Says class b → IsEnded (b ∷ bytes) → Same (b ∷ bytes) more (next_by class (b ∷ bytes)) (next_by class (b ∷ (bytes ++ more)))
unfolding next_by
same_by classes.Blank b bytes more says ended = inr refl
same_by classes.Semicolon b bytes more says ended = comment_next (b ∷ bytes) more
same_by classes.Letter b bytes more says ended = inr (ap (λ (n : ℕ). next.Word Name n) (word_run (b ∷ bytes) more ended))
same_by classes.Digit b bytes more says ended = inr (number_next (b ∷ bytes) more ended)
same_by classes.Question b bytes more says ended =
    let tail = ended_tail b bytes (held b 63 says refl) ended in
    inr (rw (begins_on is_ascii_alphabetic bytes more tail, word_run bytes more tail) refl)
same_by classes.Colon b bytes more says ended =
    let tail = ended_tail b bytes (held b 58 says refl) ended in
    inr (rw (begins_on is_ascii_alphabetic bytes more tail, word_run bytes more tail) refl)
same_by classes.Angle b bytes more says ended =
    let tail = ended_tail b bytes (angle_held b says) ended in
    inr (rw (begins_on (λ c. c == 61) bytes more tail) refl)
same_by (classes.Lone kind) b bytes more says ended = inr refl
same_by classes.Other b bytes more says ended = inr refl

same_next : (text more : List ℕ) → IsEnded text → Same text more (next_of text) (next_of (text ++ more))
unfolding next_of
same_next [] more ended = absurd (omega (arith, nonempty [] ended))
same_next (b ∷ bytes) more ended = same_by (class_of b) b bytes more (class_says b) ended

reads_both : (n : Next) (text more : List ℕ) → Reads n text → Reads n (text ++ more) → ReadsOn n text more
reads_both next.OpenComment text more here on = here
reads_both (next.Gap len) text more here on = on
reads_both (next.Word kind len) text more here on = on
reads_both next.Stray text more here on = on
reads_both next.Glued text more here on = on
reads_both next.OutOfRange text more here on = on

reads_open : (n : Next) (text more : List ℕ) → n ≡ next.OpenComment → Reads n text → ReadsOn n text more
reads_open n text more is_open here = subst (λ m. ReadsOn m text more) (sym is_open) (subst (λ m. Reads m text) is_open here)

pub reads_on : (text more : List ℕ) → 0 < length text → Settles text more → ReadsOn (next_of text) text more
reads_on text more some (inr (inr empty)) = absurd (omega (arith, some, ap (λ (t : List ℕ). length t) empty))
reads_on text more some (inr (inl nothing)) = reads_both (next_of text) text more (next_reads text some) (subst (Reads (next_of text)) (sym (append-nil text) ∙ ap (λ (t : List ℕ). text ++ t) (sym nothing)) (next_reads text some))
reads_on text more some (inl ended) = elim (same_next text more ended) [
  | inl is_open ↦ reads_open (next_of text) text more is_open (next_reads text some)
  | inr same ↦ reads_both (next_of text) text more (next_reads text some) (subst (λ n. Reads n (text ++ more)) same (next_reads (text ++ more) (omega (arith, some, length-append text more))))
]

pub settles_drop : (at : ℕ) (text more : List ℕ) → at < length text → Settles text more → Settles (drop at text) more
settles_drop at text more lt (inl ended) = inl (ended_drop at text ended lt)
settles_drop at text more lt (inr (inl nothing)) = inr (inl nothing)
settles_drop at text more lt (inr (inr empty)) = absurd (omega (arith, lt, ap (λ (t : List ℕ). length t) empty))

pub ended_behind : (front text : List ℕ) → IsEnded text → IsEnded (front ++ text)
ended_behind front text ended = record {
  front = front ++ ended.front;
  last = ended.last;
  text_is = ap (λ (t : List ℕ). front ++ t) ended.text_is ∙ sym (append_assoc front ended.front (ended.last ∷ []));
  ends = ended.ends;
}

-- a text up to a byte that is not held back
pub ended_at : (n : ℕ) (text : List ℕ) → n < length text → is_inner_byte (get_or text n 0) ≡ false → IsEnded (take (n + 1) text)
ended_at n text lt ends = record { front = take n text; last = get_or text n 0; text_is = take_more text n 0 lt; ends = ends }

pub held_more : (n : ℕ) (text : List ℕ) → n < length text → is_inner_byte (get_or text n 0) ≡ true → AllPass is_inner_byte (drop (n + 1) text) → AllPass is_inner_byte (drop n text)
held_more n text lt passes all = subst (AllPass is_inner_byte) (sym (drop-cons text n 0 lt)) (All-cons (λ (b : ℕ). is_inner_byte b ≡ true) (get_or text n 0) (drop (suc n) text) passes (subst (λ (k : ℕ). AllPass is_inner_byte (drop k text)) (add-one n) all))
