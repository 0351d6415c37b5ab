-- What `next_of` answers stands at the front of the text.
use Rattle.std.proofs.Common.{◌≡◌, ℕ, ◌+◌, ◌≤◌, ◌<◌, Bool, true, false, cond, ltb, List, [], ◌∷◌, ◌++◌, length, take, drop, get_or, refl, sym, ap, subst, ◌∙◌, arith, inl, inr}
use Rattle.std.specs.Prelude.{◌==◌, ◌||◌, ◌⊎◌, ◌≢◌, IsNone, Option, Some, None, is_some}
use Rattle.std.specs.List.{AllPass, prefix_len}
use Rattle.std.specs.Char.{is_ascii_digit, is_ascii_alphabetic, is_ascii_whitespace}
use Rattle.std.proofs.Math.Numerals.{one-add, add-one}
use Rattle.std.proofs.lemmas.Bool.{cond_both, false_from_ne_true, or_from, eqb-true, ltb-true, ltb-false}
use Rattle.std.proofs.lemmas.List.{take_at, drop_at, take_all, take_more, length-append}
use Rattle.std.proofs.lemmas.List.Sums.{prefix_len-le-length, prefix_len_stops}
use Rattle.pddl_token.specs.declared.token.TokenKind.{TokenKind}
use Rattle.pddl_token.specs.declared.token.TokenKind.TheVariants.{Open, Close, Name, Variable, Keyword, Number, Dash, Equal, Colon, Bracket, Compare, Arithmetic}
use Rattle.pddl_scan.specs.declared.bytes.ByteClass.{ByteClass}
use Rattle.pddl_scan.specs.declared.bytes.ByteClass.TheVariants as classes
use Rattle.pddl_scan.specs.declared.next.Next.TheVariants as next
use Rattle.pddl_token.specs.Bytes.{is_line_byte, is_word_byte, begins}
use Rattle.pddl_scan.specs.Inner.ByteClass.{class_of}
use Rattle.pddl_token.specs.Words.{IsName, IsNumber, IsSpelling}
use Rattle.pddl_token.specs.Number.{value_of}
use Rattle.pddl_scan.specs.Faults.{IsStray, IsLongestNumber}
use Rattle.pddl_scan.specs.Inner.Reading.{number_len, next_comment, next_number, next_by, next_of, IsWordAt, Reads}
use Rattle.pddl_token.proofs.Runs.{run_passes, run_stops}
use Rattle.pddl_scan.proofs.Numbers.{number_begins, number_nonempty, number_len_is, number_at, is_longest}
use Rattle.pddl_token.proofs.FrontNames.{letter_is_word_byte}
use Rattle.pddl_scan.proofs.Classes.{class_of_blank, class_of_letter, class_of_digit, Says, class_says}

-- ---- where no word begins

-- a word can begin with a byte of this class, these bytes following
abbrev starts_by : ByteClass → List ℕ → Bool
starts_by classes.Blank rest = false
starts_by classes.Semicolon rest = false
starts_by classes.Other rest = false
starts_by classes.Question rest = begins is_ascii_alphabetic rest
starts_by classes.Letter rest = true
starts_by classes.Digit rest = true
starts_by classes.Colon rest = true
starts_by classes.Angle rest = true
starts_by (classes.Lone kind) rest = true

-- a word can begin here
abbrev starts_word : List ℕ → Bool
starts_word [] = false
starts_word (b ∷ bytes) = starts_by (class_of b) bytes

-- a name begins with a letter
name_begins : (text after : List ℕ) → IsName text → begins is_ascii_alphabetic (text ++ after) ≡ true
name_begins [] after name = absurd name
name_begins (b ∷ text) after name = name.0

-- a name begins where a word can
name_starts : (text after : List ℕ) → IsName text → starts_word (text ++ after) ≡ true
name_starts [] after name = absurd name
name_starts (b ∷ text) after name = ap (λ c. starts_by c (text ++ after)) (class_of_letter b name.0)

-- a number begins where a word can
number_starts : (text after : List ℕ) → IsNumber text → starts_word (text ++ after) ≡ true
number_starts [] after number = absurd (omega (arith, number_nonempty [] number))
number_starts (b ∷ text) after number = ap (λ c. starts_by c (text ++ after)) (class_of_digit b (number_begins (b ∷ text) number))

-- each word begins where a word can
word_starts : (kind : TokenKind) (text after : List ℕ) → IsSpelling kind text → starts_word (text ++ after) ≡ true
word_starts Open text after e = rw e refl
word_starts Close text after e = rw e refl
word_starts Name text after name = name_starts text after name
word_starts Variable text after marked = rw marked.2 (name_begins marked.0 after marked.1)
word_starts Keyword text after marked = rw marked.2 refl
word_starts Number text after number = number_starts text after number
word_starts Dash text after e = rw e refl
word_starts Equal text after e = rw e refl
word_starts Colon text after e = rw e refl
word_starts Bracket text after (inl e) = rw e refl
word_starts Bracket text after (inr e) = rw e refl
word_starts Compare text after (inl (inl e)) = rw e refl
word_starts Compare text after (inl (inr e)) = rw e refl
word_starts Compare text after (inr (inl e)) = rw e refl
word_starts Compare text after (inr (inr e)) = rw e refl
word_starts Arithmetic text after (inl e) = rw e refl
word_starts Arithmetic text after (inr (inl e)) = rw e refl
word_starts Arithmetic text after (inr (inr e)) = rw e refl

-- elsewhere no word begins
no_word : (rest : List ℕ) → starts_word rest ≡ false → (kind : TokenKind) (text after : List ℕ) → IsSpelling kind text → rest ≡ text ++ after → ⊥
no_word rest none kind text after spelled rest_is = let started = ap starts_word rest_is ∙ word_starts kind text after spelled in absurd (cc (started, none))

-- a byte of this class is no blank and no `;`
no_gap : (b : ℕ) (class : ByteClass) → class_of b ≡ class → class ≢ classes.Blank → class ≢ classes.Semicolon → (is_ascii_whitespace b || (b == 59)) ≡ false
no_gap b class e no_blank no_semicolon = or_from (is_ascii_whitespace b) (b == 59)
    (false_from_ne_true (is_ascii_whitespace b) (λ blank. no_blank (sym e ∙ class_of_blank b blank)))
    (false_from_ne_true (b == 59) (λ semicolon. no_semicolon (sym e ∙ ap class_of (eqb-true b 59 semicolon))))

-- a byte that begins no word is stray
stray_reads : (b : ℕ) (bytes : List ℕ) (class : ByteClass) → class_of b ≡ class → class ≢ classes.Blank → class ≢ classes.Semicolon → starts_by class bytes ≡ false → IsStray (b ∷ bytes)
stray_reads b bytes class e no_blank no_semicolon none = record {
  some_byte = omega arith;
  no_gap = no_gap b class e no_blank no_semicolon;
  no_word = no_word (b ∷ bytes) (ap (λ c. starts_by c bytes) e ∙ none);
}

-- ---- names

-- a letter and its word bytes are a name
name_taken : (text : List ℕ) → begins is_ascii_alphabetic text ≡ true → IsName (take (prefix_len is_word_byte text) text)
name_taken [] begun = absurd cc
name_taken (b ∷ bytes) begun = rw (letter_is_word_byte b begun, one-add) (begun, run_passes is_word_byte bytes)

-- a name is read
name_reads : (b : ℕ) (bytes : List ℕ) → is_ascii_alphabetic b ≡ true → IsWordAt Name (prefix_len is_word_byte (b ∷ bytes)) (b ∷ bytes)
name_reads b bytes letter = record {
  nonempty = rw (letter_is_word_byte b letter) (omega arith);
  in_range = prefix_len-le-length is_word_byte (b ∷ bytes);
  is_part = (name_taken (b ∷ bytes) letter, run_stops is_word_byte (b ∷ bytes));
  valued = λ e. absurd (cc e);
}

-- a variable is read
variable_reads : (bytes : List ℕ) → begins is_ascii_alphabetic bytes ≡ true → IsWordAt Variable (1 + prefix_len is_word_byte bytes) (63 ∷ bytes)
variable_reads bytes letter = rw one-add (record {
  nonempty = omega arith;
  in_range = omega (arith, prefix_len-le-length is_word_byte bytes);
  is_part = ((take (prefix_len is_word_byte bytes) bytes, name_taken bytes letter, refl), run_stops is_word_byte bytes);
  valued = λ e. absurd (cc e);
})

-- a keyword is read
keyword_reads : (bytes : List ℕ) → begins is_ascii_alphabetic bytes ≡ true → IsWordAt Keyword (1 + prefix_len is_word_byte bytes) (58 ∷ bytes)
keyword_reads bytes letter = rw one-add (record {
  nonempty = omega arith;
  in_range = omega (arith, prefix_len-le-length is_word_byte bytes);
  is_part = ((take (prefix_len is_word_byte bytes) bytes, name_taken bytes letter, refl), run_stops is_word_byte bytes);
  valued = λ e. absurd (cc e);
})

-- what stands at `?`
question_reads : (bytes : List ℕ) → Reads (next_by classes.Question (63 ∷ bytes)) (63 ∷ bytes)
unfolding next_by
question_reads bytes = cond_both (begins is_ascii_alphabetic bytes) (next.Word Variable (1 + prefix_len is_word_byte bytes)) next.Stray (λ n. Reads n (63 ∷ bytes))
    (λ begun. variable_reads bytes begun)
    (λ none. stray_reads 63 bytes classes.Question refl (λ e. absurd (cc e)) (λ e. absurd (cc e)) none)

-- what stands at `:`
colon_reads : (bytes : List ℕ) → Reads (next_by classes.Colon (58 ∷ bytes)) (58 ∷ bytes)
unfolding next_by
colon_reads bytes = cond_both (begins is_ascii_alphabetic bytes) (next.Word Keyword (1 + prefix_len is_word_byte bytes)) (next.Word Colon 1) (λ n. Reads n (58 ∷ bytes))
    (λ begun. keyword_reads bytes begun)
    (λ none. record { nonempty = omega arith; in_range = omega arith; is_part = (refl, none); valued = λ e. absurd (cc e) })

-- ---- marks

-- `<` and `>` alone
angle_word : (b : ℕ) (bytes : List ℕ) → (b ≡ 60) ⊎ (b ≡ 62) → begins (λ x. x == 61) bytes ≡ false → IsWordAt Compare 1 (b ∷ bytes)
angle_word b bytes angle none = record {
  nonempty = omega arith;
  in_range = omega arith;
  is_part = (inl (elim angle [ inl e ↦ inl (ap (λ (n : ℕ). n ∷ []) e) | inr e ↦ inr (ap (λ (n : ℕ). n ∷ []) e) ]), λ _. none);
  valued = λ e. absurd (cc e);
}

-- `<=` and `>=`
angle_equal : (b : ℕ) (bytes : List ℕ) → (b ≡ 60) ⊎ (b ≡ 62) → begins (λ x. x == 61) bytes ≡ true → IsWordAt Compare 2 (b ∷ bytes)
angle_equal b [] angle equal = absurd cc
angle_equal b (c ∷ bytes) angle equal = record {
  nonempty = omega arith;
  in_range = omega arith;
  is_part = (inr (elim angle [ inl e ↦ inl (two 60 e) | inr e ↦ inr (two 62 e) ]), λ one. absurd (omega (arith, one)));
  valued = λ e. absurd (cc e);
}
  where
    two : (m : ℕ) → b ≡ m → b ∷ c ∷ [] ≡ m ∷ 61 ∷ []
    two m e = ap (λ (n : ℕ). n ∷ c ∷ []) e ∙ ap (λ (n : ℕ). m ∷ n ∷ []) (eqb-true c 61 equal)

-- what stands at `<` and `>`
angle_reads : (b : ℕ) (bytes : List ℕ) → (b ≡ 60) ⊎ (b ≡ 62) → Reads (next_by classes.Angle (b ∷ bytes)) (b ∷ bytes)
unfolding next_by
angle_reads b bytes angle = cond_both (begins (λ x. x == 61) bytes) (next.Word Compare 2) (next.Word Compare 1) (λ n. Reads n (b ∷ bytes)) (angle_equal b bytes angle) (angle_word b bytes angle)

-- ---- comments

-- a line with its LF
pub lf_at : (bytes : List ℕ) → prefix_len is_line_byte bytes < length bytes → take (prefix_len is_line_byte bytes + 1) bytes ≡ take (prefix_len is_line_byte bytes) bytes ++ 10 ∷ []
lf_at bytes lt =
    let n = prefix_len is_line_byte bytes in
    let lf : get_or bytes n 0 ≡ 10 = eqb-true (get_or bytes n 0) 10 (grind (arith, prefix_len_stops is_line_byte bytes 0 lt)) in
    take_more bytes n 0 lt ∙ ap (λ (c : ℕ). take n bytes ++ c ∷ []) lf

-- what stands at `;`
comment_reads : (bytes : List ℕ) → Reads (next_comment (59 ∷ bytes)) (59 ∷ bytes)
unfolding next_comment
comment_reads bytes =
    let n : ℕ = prefix_len is_line_byte bytes in
    cond_both (ltb (1 + n) (length (59 ∷ bytes))) (next.Gap (1 + n + 1)) next.OpenComment (λ answer. Reads answer (59 ∷ bytes))
    (λ inside.
    let lt : n < length bytes = omega (arith, ltb-true _ _ inside) in
    record {
      nonempty = omega arith;
      in_range = omega arith;
      is_part = inr (take n bytes, run_passes is_line_byte bytes, rw (one-add, add-one) (ap (λ (t : List ℕ). 59 ∷ t) (rw add-one at (lf_at bytes lt))));
    })
    (λ outside.
    let le : length bytes ≤ n = omega (arith, ltb-false _ _ outside) in
    (bytes, subst (AllPass is_line_byte) (take_all n bytes le) (run_passes is_line_byte bytes), refl))

-- ---- numbers

-- what is not some is none
some_or_none : (o : Option ℕ) → is_some o ≡ false → IsNone o
some_or_none None e = refl
some_or_none (Some n) e = absurd cc

-- what stands at a digit
number_reads : (text : List ℕ) → begins is_ascii_digit text ≡ true → Reads (next_number text) text
unfolding next_number
number_reads text begun =
    let it = number_at text begun in
    let len : number_len text ≡ length it.number = ap number_len it.text_is ∙ number_len_is it.number it.after it.is_number it.ends in
    let front : take (number_len text) text ≡ it.number = ap (take (number_len text)) it.text_is ∙ take_at it.number it.after (number_len text) (sym len) in
    let rest : drop (number_len text) text ≡ it.after = ap (drop (number_len text)) it.text_is ∙ drop_at it.number it.after (number_len text) (sym len) in
    let longest : IsLongestNumber it.number it.after text = subst (IsLongestNumber it.number it.after) (sym it.text_is) (is_longest it.number it.after it.is_number it.ends) in
    cond_both (begins is_word_byte (drop (number_len text) text)) next.Glued (cond (is_some (value_of (take (number_len text) text))) (next.Word Number (number_len text)) next.OutOfRange) (λ answer. Reads answer text)
    (λ word_byte. record { number = it.number; after = it.after; longest = longest; word_byte = ap (begins is_word_byte) (sym rest) ∙ word_byte })
    (λ no_word_byte. cond_both (is_some (value_of (take (number_len text) text))) (next.Word Number (number_len text)) next.OutOfRange (λ answer. Reads answer text)
    (λ valued. record {
      nonempty = omega (arith, number_nonempty it.number it.is_number);
      in_range = omega (arith, ap (λ (t : List ℕ). length t) it.text_is, length-append it.number it.after);
      is_part = (rw front it.is_number, (no_word_byte, λ digits. rw rest (it.ends.no_decimals (rw front at digits))));
      valued = λ _. valued;
    })
    (λ no_value. record { number = it.number; after = it.after; longest = longest; no_value = some_or_none (value_of it.number) (rw front at no_value); not_glued = ap (begins is_word_byte) (sym rest) ∙ no_word_byte }))

-- a number with a value
pub number_here : (text : List ℕ) (value : ℕ) → begins is_ascii_digit text ≡ true → begins is_word_byte (drop (number_len text) text) ≡ false → value_of (take (number_len text) text) ≡ Some value
    → IsWordAt Number (number_len text) text
unfolding next_number
number_here text value begun ends valued =
    let is : next_number text ≡ next.Word Number (number_len text) = rw (ends, valued) refl in
    subst (λ answer. Reads answer text) is (number_reads text begun)

-- ---- any byte

-- what stands at a byte of this class
reads_by : (class : ByteClass) (b : ℕ) (bytes : List ℕ) → class_of b ≡ class → Says class b → Reads (next_by class (b ∷ bytes)) (b ∷ bytes)
unfolding next_by
reads_by classes.Blank b bytes e blank = record { nonempty = omega arith; in_range = omega arith; is_part = inl (b, blank, refl) }
reads_by classes.Semicolon b bytes e is_it = rw is_it (comment_reads bytes)
reads_by classes.Letter b bytes e letter = name_reads b bytes letter
reads_by classes.Digit b bytes e digit = number_reads (b ∷ bytes) digit
reads_by classes.Question b bytes e is_it = rw is_it (question_reads bytes)
reads_by classes.Colon b bytes e is_it = rw is_it (colon_reads bytes)
reads_by classes.Angle b bytes e angle = angle_reads b bytes angle
reads_by (classes.Lone kind) b bytes e says = record { nonempty = omega arith; in_range = omega arith; is_part = (says.1, says.2 bytes); valued = λ number. absurd (says.0 number) }
reads_by classes.Other b bytes e says = stray_reads b bytes classes.Other e (λ e. absurd (cc e)) (λ e. absurd (cc e)) refl

-- what stands at the front of any text
pub next_reads : (text : List ℕ) → 0 < length text → Reads (next_of text) text
unfolding next_of
next_reads [] nonempty = absurd (omega arith)
next_reads (b ∷ bytes) nonempty = reads_by (class_of b) b bytes refl (class_says b)
