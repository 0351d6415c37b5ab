-- How far a number reaches.
use Rattle.std.proofs.Common.{◌≡◌, ℕ, ◌+◌, ◌≤◌, ◌<◌, Bool, true, false, List, [], ◌∷◌, ◌++◌, length, take, drop, refl, sym, ap, ◌∙◌, arith, inl, inr}
use Rattle.std.specs.Prelude.{◌==◌}
use Rattle.std.specs.List.{prefix_len}
use Rattle.std.specs.Char.{is_ascii_digit}
use Rattle.std.proofs.lemmas.List.{append_assoc, drop_at, drop-drop, length-append, take-append-drop}
use Rattle.std.proofs.lemmas.List.Elements.{All-head, All-tail}
use Rattle.std.proofs.Math.Numerals.{one-add}
use Rattle.std.proofs.lemmas.Bool.{cond-true, cond-false, cond_both, cases_Bool, false_from_ne_true, and_parts, eqb-true}
use Rattle.pddl_token.specs.declared.token.TokenKind.TheVariants.{Number}
use Rattle.pddl_token.specs.Bytes.{is_word_byte, begins, begins_decimals}
use Rattle.pddl_token.specs.Words.{IsDigits, IsNumber, MayFollow}
use Rattle.pddl_scan.specs.Faults.{IsLongestNumber}
use Rattle.pddl_scan.specs.Inner.Reading.{number_len}
use Rattle.pddl_token.proofs.Runs.{run_len, run_le, run_passes, run_stops}
use Rattle.pddl_scan.proofs.Classes.{digit_is_word_byte}

-- what follows doesn't go on with the number
pub record EndsNumber (text after : List ℕ) : Type 0 where
  pub no_digit : begins is_ascii_digit after ≡ false
  pub no_decimals : IsDigits text → begins_decimals after ≡ false

-- what is no word byte is no digit
no_digit_from : (after : List ℕ) → begins is_word_byte after ≡ false → begins is_ascii_digit after ≡ false
no_digit_from [] stops = refl
no_digit_from (b ∷ after) stops = false_from_ne_true (is_ascii_digit b) (λ digit. let w = digit_is_word_byte b digit in absurd (cc (w, stops)))

-- what may follow a number ends it
pub ends_number : (text after : List ℕ) → MayFollow Number text after → EndsNumber text after
ends_number text after follows = record { no_digit = no_digit_from after follows.0; no_decimals = follows.1 }

-- digits begin with a digit
digits_begin : (text after : List ℕ) → IsDigits text → begins is_ascii_digit (text ++ after) ≡ true
digits_begin [] after digits = absurd (omega (arith, digits.0))
digits_begin (b ∷ text) after digits = All-head (λ x. is_ascii_digit x ≡ true) b text digits.1

-- a number has a byte
pub number_nonempty : (text : List ℕ) → IsNumber text → 0 < length text
number_nonempty text (inl digits) = digits.0
number_nonempty text (inr decimal) = rw decimal.4 (omega (arith, length-append decimal.0 (46 ∷ decimal.1)))

-- a number begins with a digit
pub number_begins : (text : List ℕ) → IsNumber text → begins is_ascii_digit text ≡ true
number_begins [] number = absurd (omega (arith, number_nonempty [] number))
number_begins (b ∷ text) (inl digits) = digits_begin (b ∷ text) [] digits
number_begins (b ∷ text) (inr decimal) = ap (begins is_ascii_digit) decimal.4 ∙ digits_begin decimal.0 (46 ∷ decimal.1) decimal.2

-- digits that no point follows
pub whole_len : (text after : List ℕ) → IsDigits text → EndsNumber text after → number_len (text ++ after) ≡ length text
unfolding number_len
whole_len text after digits ends =
    let run = run_len is_ascii_digit text after digits.1 ends.no_digit in
    let rest = drop_at text after _ (sym run) in
    cond-false _ _ _ (ap begins_decimals rest ∙ ends.no_decimals digits) ∙ run

-- digits, a point and digits
pub decimal_len : (whole decimals after : List ℕ) → IsDigits whole → IsDigits decimals → number_len (whole ++ (46 ∷ (decimals ++ after))) ≡ length whole + 1 + prefix_len is_ascii_digit (decimals ++ after)
unfolding number_len
decimal_len whole decimals after digits more_digits =
    let text : List ℕ = whole ++ (46 ∷ (decimals ++ after)) in
    let run : prefix_len is_ascii_digit text ≡ length whole = run_len is_ascii_digit whole (46 ∷ (decimals ++ after)) digits.1 refl in
    let rest : drop (prefix_len is_ascii_digit text) text ≡ 46 ∷ (decimals ++ after) = drop_at whole (46 ∷ (decimals ++ after)) _ (sym run) in
    let rest2 : drop (prefix_len is_ascii_digit text + 1) text ≡ decimals ++ after = sym (drop-drop 1 (prefix_len is_ascii_digit text) text) ∙ ap (drop 1) rest in
    cond-true _ _ _ (ap begins_decimals rest ∙ digits_begin decimals after more_digits)
    ∙ ap (λ (n : ℕ). n + 1 + prefix_len is_ascii_digit (drop (prefix_len is_ascii_digit text + 1) text)) run
    ∙ ap (λ (t : List ℕ). length whole + 1 + prefix_len is_ascii_digit t) rest2

-- a number that nothing goes on has the length that is read
pub number_len_is : (text after : List ℕ) → IsNumber text → EndsNumber text after → number_len (text ++ after) ≡ length text
number_len_is text after (inl digits) ends = whole_len text after digits ends
number_len_is text after (inr decimal) ends =
    let whole = decimal.0 in let decimals = decimal.1 in
    let run = run_len is_ascii_digit decimals after decimal.3.1 ends.no_digit in
    let len = decimal_len whole decimals after decimal.2 decimal.3 in
    let text_is : text ++ after ≡ whole ++ (46 ∷ (decimals ++ after)) = rw decimal.4 (append_assoc whole (46 ∷ decimals) after) in
    ap number_len text_is ∙ len ∙ omega (arith, run, ap (λ (t : List ℕ). length t) decimal.4, length-append whole (46 ∷ decimals))

-- digits are counted in any case
digits_le : (text : List ℕ) → prefix_len is_ascii_digit text ≤ number_len text
unfolding number_len
digits_le text = let whole : ℕ = prefix_len is_ascii_digit text in cond_both (begins_decimals (drop whole text)) (whole + 1 + prefix_len is_ascii_digit (drop (whole + 1) text)) whole (λ (n : ℕ). prefix_len is_ascii_digit text ≤ n) (λ yes. omega arith) (λ no. omega arith)

-- a number that begins there is no longer
pub number_len_ge : (other more : List ℕ) → IsNumber other → length other ≤ number_len (other ++ more)
number_len_ge other more (inl digits) = omega (arith, run_le is_ascii_digit other more digits.1, digits_le (other ++ more))
number_len_ge other more (inr decimal) =
    let whole = decimal.0 in let decimals = decimal.1 in
    let text_is : other ++ more ≡ whole ++ (46 ∷ (decimals ++ more)) = rw decimal.4 (append_assoc whole (46 ∷ decimals) more) in
    omega (arith, ap number_len text_is, decimal_len whole decimals more decimal.2 decimal.3, run_le is_ascii_digit decimals more decimal.3.1, ap (λ (t : List ℕ). length t) decimal.4, length-append whole (46 ∷ decimals))

-- a number that nothing goes on is the longest
pub is_longest : (number after : List ℕ) → IsNumber number → EndsNumber number after → IsLongestNumber number after (number ++ after)
is_longest number after is_number ends = record {
  rest_is = refl;
  is_number = is_number;
  longest = λ other more is_other same. omega (arith, number_len_ge other more is_other, ap number_len same, number_len_is number after is_number ends);
}

-- ---- the number at the front

-- the text's longest number, and what follows it
pub record NumberAt (text : List ℕ) : Type 0 where
  pub number : List ℕ
  pub after : List ℕ
  pub text_is : text ≡ number ++ after
  pub is_number : IsNumber number
  pub ends : EndsNumber number after

-- a run that begins has a byte
run_nonempty : (p : ℕ → Bool) (text : List ℕ) → begins p text ≡ true → 0 < length (take (prefix_len p text) text)
run_nonempty p [] begun = absurd cc
run_nonempty p (b ∷ text) begun = rw (begun, one-add) (omega arith)

-- a point and a digit, taken apart
point_digits : (rest : List ℕ) → begins_decimals rest ≡ true → (more : List ℕ) × (rest ≡ 46 ∷ more) × (begins is_ascii_digit more ≡ true)
point_digits [] e = absurd cc
point_digits (b ∷ more) e = let parts = and_parts (b == 46) (begins is_ascii_digit more) e in (more, ap (λ (n : ℕ). n ∷ more) (eqb-true b 46 parts.0), parts.1)

-- digits have no point
no_digits_with_point : (whole more : List ℕ) → IsDigits (whole ++ (46 ∷ more)) → ⊥
no_digits_with_point [] more digits = absurd (cc (All-head (λ x. is_ascii_digit x ≡ true) 46 more digits.1))
no_digits_with_point (b ∷ []) more digits = absurd (cc (All-head (λ x. is_ascii_digit x ≡ true) 46 more (All-tail (λ x. is_ascii_digit x ≡ true) b (46 ∷ more) digits.1)))
no_digits_with_point (b ∷ c ∷ whole) more digits = no_digits_with_point (c ∷ whole) more (omega arith, All-tail (λ x. is_ascii_digit x ≡ true) b (c ∷ whole ++ (46 ∷ more)) digits.1)

-- a number stands where a digit does
pub number_at : (text : List ℕ) → begins is_ascii_digit text ≡ true → NumberAt text
number_at text begun =
    let d = is_ascii_digit in
    let whole : List ℕ = take (prefix_len d text) text in
    let rest : List ℕ = drop (prefix_len d text) text in
    let text_is : text ≡ whole ++ rest = sym (take-append-drop (prefix_len d text) text) in
    let digits : IsDigits whole = (run_nonempty d text begun, run_passes d text) in
    elim (cases_Bool (begins_decimals rest)) [
      | inl point ↦ decimal whole rest text_is digits (point_digits rest point)
      | inr no_point ↦ record { number = whole; after = rest; text_is = text_is; is_number = inl digits; ends = record { no_digit = run_stops d text; no_decimals = λ _. no_point } }
    ]
  where
    decimal : (whole rest : List ℕ) → text ≡ whole ++ rest → IsDigits whole → (more : List ℕ) × (rest ≡ 46 ∷ more) × (begins is_ascii_digit more ≡ true) → NumberAt text
    decimal whole rest text_is digits point =
        let more = point.0 in
        let decimals : List ℕ = take (prefix_len is_ascii_digit more) more in
        let after : List ℕ = drop (prefix_len is_ascii_digit more) more in
        let more_is : decimals ++ after ≡ more = take-append-drop (prefix_len is_ascii_digit more) more in
        record {
          number = whole ++ (46 ∷ decimals);
          after = after;
          text_is = text_is ∙ ap (λ (t : List ℕ). whole ++ t) (point.1 ∙ ap (λ (t : List ℕ). 46 ∷ t) (sym more_is)) ∙ sym (append_assoc whole (46 ∷ decimals) after);
          is_number = inr (whole, decimals, digits, (run_nonempty is_ascii_digit more point.2, run_passes is_ascii_digit more), refl);
          ends = record { no_digit = run_stops is_ascii_digit more; no_decimals = λ all. absurd (no_digits_with_point whole decimals all) };
        }
