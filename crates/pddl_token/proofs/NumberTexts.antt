-- The canonical text of a number has its value.
use Rattle.std.proofs.Common.{◌≡◌, ℕ, zero, suc, ◌+◌, ◌*◌, ◌/◌, ◌%◌, ◌^◌, ◌≤◌, ◌<◌, true, false, List, [], ◌∷◌, ◌++◌, length, take, drop, replicate, Some, refl, sym, ap, subst, ◌∙◌, arith, inl, inr}
use Rattle.std.specs.Prelude.{◌==◌}
use Rattle.std.specs.List.{AllPass, fold, list_all, prefix_len}
use Rattle.std.specs.Char.{is_ascii_digit}
use Rattle.std.specs.Fmt.{decimal}
use Rattle.std.proofs.lemmas.Fmt.{decimal_by_steps, decimal_nonempty}
use Rattle.std.proofs.lemmas.Bool.{cond_both, eqb-true}
use Rattle.std.proofs.lemmas.Bool.Decides.{nat_tests}
use Rattle.std.proofs.lemmas.List.{append_assoc, append-nil, take_at, drop_at, drop_all, length-append}
use Rattle.std.proofs.lemmas.List.Elements.{All-head, All-tail, All-nil, All-cons, All-push}
use Rattle.std.proofs.lemmas.List.Sums.{fold-append}
use Rattle.pddl_token.specs.Bytes.{begins}
use Rattle.pddl_token.specs.Words.{IsDigits, IsNumber}
use Rattle.pddl_token.specs.Number.{decimals_of, nine_of, add_digit, billionths_of, value_of}
use Rattle.pddl_token.specs.NumberText.{padded, trimmed, pointed, number_text}
use Rattle.pddl_token.proofs.Runs.{run_len}
use Rattle.pddl_token.proofs.Values.{within}
use Rattle.pddl_token.proofs.Tests.{both_true}

-- the code of an ASCII digit
abbrev IsDigit : ℕ → Type 0
IsDigit b = is_ascii_digit b ≡ true

-- a digit passes the test
digit_passes : (d : ℕ) → d < 10 → is_ascii_digit (48 + d) ≡ true
digit_passes d lt = grind (arith, nat_tests, lt)

-- one digit more multiplies by ten
fold_push : (a d : ℕ) (digits : List ℕ) → fold add_digit a (digits ++ (48 + d) ∷ []) ≡ fold add_digit a digits * 10 + d
fold_push a d digits = fold-append add_digit a digits ((48 + d) ∷ []) ∙ omega arith

-- ---- whole parts

-- a printed number's bytes are digits
decimal_digits : (n : ℕ) → n < 2 ^ 64 → AllPass is_ascii_digit (decimal n)
decimal_digits n lt = decimal_by_steps (λ m digits. AllPass is_ascii_digit digits)
    (λ m small. All-cons IsDigit (48 + m) [] (digit_passes m small) (All-nil IsDigit))
    (λ m digits large pass. All-push IsDigit digits (48 + m % 10) pass (digit_passes (m % 10) (omega arith)))
    n lt

-- a printed number has its value
decimal_value : (n : ℕ) → n < 2 ^ 64 → fold add_digit 0 (decimal n) ≡ n
decimal_value n lt = decimal_by_steps (λ m digits. fold add_digit 0 digits ≡ m)
    (λ m small. omega arith)
    (λ m digits large value. omega (arith, fold_push 0 (m % 10) digits, value))
    n lt

-- ---- decimals

-- filled-up digits are digits
padded_digits : (len n : ℕ) → AllPass is_ascii_digit (padded len n)
unfolding padded
padded_digits zero n = All-nil IsDigit
padded_digits (suc len) n = All-push IsDigit (padded len (n / 10)) (48 + n % 10) (padded_digits len (n / 10)) (digit_passes (n % 10) (omega arith))

-- they have the length
padded_length : (len n : ℕ) → length (padded len n) ≡ len
unfolding padded
padded_length zero n = refl
padded_length (suc len) n = omega (arith, length-append (padded len (n / 10)) ((48 + n % 10) ∷ []), padded_length len (n / 10))

-- a power of ten is ten times the one before
power : (len : ℕ) → 10 ^ (suc len) ≡ 10 ^ len * 10
power len = omega arith

-- filled-up digits have their value
padded_value : (len a n : ℕ) → n < 10 ^ len → fold add_digit a (padded len n) ≡ a * 10 ^ len + n
unfolding padded
padded_value zero a n lt = omega (arith, lt)
padded_value (suc len) a n lt =
    let rest = padded_value len a (n / 10) (omega (arith, lt, power len)) in
    let on = fold_push a (n % 10) (padded len (n / 10)) in
    omega (arith, rest, on, ap (λ (p : ℕ). a * p) (power len))

-- zeros alone are copies of zero
zeros : (digits : List ℕ) (n : ℕ) → length digits ≤ n → list_all (λ b. b == 48) digits ≡ true → take (length digits) (replicate n 48) ≡ digits
zeros [] n le all = refl
zeros (digit ∷ digits) zero le all = absurd (omega (arith, le))
zeros (digit ∷ digits) (suc n) le all =
    let parts = both_true (digit == 48) (list_all (λ b. b == 48) digits) all in
    let first : digit ≡ 48 = eqb-true digit 48 parts.0 in
    ap (λ (d : ℕ). d ∷ take (length digits) (replicate n 48)) (sym first) ∙ ap (λ (t : List ℕ). digit ∷ t) (zeros digits n (omega (arith, le)) parts.1)

-- trimmed digits filled up again are the digits
filled : (digits : List ℕ) (n : ℕ) → length digits ≤ n → take (length digits) (trimmed digits ++ replicate n 48) ≡ digits
filled [] n le = refl
filled (digit ∷ digits) n le =
    let rest = filled digits n (omega (arith, le)) in
    cond_both (list_all (λ b. b == 48) (digit ∷ digits)) [] (digit ∷ trimmed digits) (λ t. take (suc (length digits)) (t ++ replicate n 48) ≡ digit ∷ digits)
    (λ all. zeros (digit ∷ digits) n le all)
    (λ other. ap (λ (t : List ℕ). digit ∷ t) rest)

-- trimming makes no digit
trimmed_le : (digits : List ℕ) → length (trimmed digits) ≤ length digits
trimmed_le [] = omega arith
trimmed_le (digit ∷ digits) =
    let rest = trimmed_le digits in
    cond_both (list_all (λ b. b == 48) (digit ∷ digits)) [] (digit ∷ trimmed digits) (λ t. length t ≤ suc (length digits)) (λ all. omega arith) (λ other. omega (arith, rest))

-- trimmed digits are digits
trimmed_digits : (digits : List ℕ) → AllPass is_ascii_digit digits → AllPass is_ascii_digit (trimmed digits)
trimmed_digits [] pass = pass
trimmed_digits (digit ∷ digits) pass =
    let rest = trimmed_digits digits (All-tail IsDigit digit digits pass) in
    cond_both (list_all (λ b. b == 48) (digit ∷ digits)) [] (digit ∷ trimmed digits) (λ t. AllPass is_ascii_digit t) (λ all. All-nil IsDigit) (λ other. All-cons IsDigit digit (trimmed digits) (All-head IsDigit digit digits pass) rest)

-- ---- whole and decimals

-- no digit begins the decimals with their point
pointed_stops : (decimals : List ℕ) → begins is_ascii_digit (pointed decimals) ≡ false
pointed_stops [] = refl
pointed_stops (digit ∷ decimals) = refl

-- the decimals behind the point are found again
decimals_back : (whole decimals : List ℕ) → AllPass is_ascii_digit whole → decimals_of (whole ++ pointed decimals) ≡ decimals
decimals_back whole [] pass =
    let len : prefix_len is_ascii_digit (whole ++ []) ≡ length whole = run_len is_ascii_digit whole [] pass refl in
    drop_all _ (whole ++ []) (omega (arith, len, length-append whole []))
decimals_back whole (digit ∷ decimals) pass =
    let len : prefix_len is_ascii_digit (whole ++ 46 ∷ digit ∷ decimals) ≡ length whole = run_len is_ascii_digit whole (46 ∷ digit ∷ decimals) pass refl in
    let regroup : whole ++ 46 ∷ digit ∷ decimals ≡ (whole ++ 46 ∷ []) ++ digit ∷ decimals = sym (append_assoc whole (46 ∷ []) (digit ∷ decimals)) in
    ap (drop (prefix_len is_ascii_digit (whole ++ 46 ∷ digit ∷ decimals) + 1)) regroup
    ∙ drop_at (whole ++ 46 ∷ []) (digit ∷ decimals) (prefix_len is_ascii_digit (whole ++ 46 ∷ digit ∷ decimals) + 1) (omega (arith, len, length-append whole (46 ∷ [])))

-- digits with decimals are a number
is_number : (whole decimals : List ℕ) → IsDigits whole → AllPass is_ascii_digit decimals → IsNumber (whole ++ pointed decimals)
is_number whole [] digits pass = inl (subst IsDigits (sym (append-nil whole)) digits)
is_number whole (digit ∷ decimals) digits pass = inr (whole, digit ∷ decimals, digits, (omega arith, pass), refl)

-- a printed number has its value, part by part
value_back : (whole : List ℕ) (w m : ℕ) → AllPass is_ascii_digit whole → fold add_digit 0 whole ≡ w → m < 1000000000 → w * 1000000000 + m ≤ 9999999999999999999
    → value_of (whole ++ pointed (trimmed (padded 9 m))) ≡ Some (w * 1000000000 + m)
value_back whole w m pass whole_is lt le =
    let digits : List ℕ = padded 9 m in
    let dec : List ℕ = trimmed digits in
    let text : List ℕ = whole ++ pointed dec in
    let back : decimals_of text ≡ dec = decimals_back whole dec pass in
    let none_left : drop 9 (decimals_of text) ≡ [] = ap (drop 9) back ∙ drop_all 9 dec (omega (arith, trimmed_le digits, padded_length 9 m)) in
    let nine : nine_of (decimals_of text) ≡ digits = ap nine_of back ∙ ap (λ (n : ℕ). take n (dec ++ replicate 9 48)) (sym (padded_length 9 m)) ∙ filled digits 9 (omega (arith, padded_length 9 m)) in
    let front : take (prefix_len is_ascii_digit text) text ≡ whole = take_at whole (pointed dec) (prefix_len is_ascii_digit text) (sym (run_len is_ascii_digit whole (pointed dec) pass (pointed_stops dec))) in
    let sum : billionths_of text ≡ w * 1000000000 + m =
    ap (λ (t : List ℕ). fold add_digit 0 (t ++ nine_of (decimals_of text))) front ∙ ap (λ (t : List ℕ). fold add_digit 0 (whole ++ t)) nine
    ∙ fold-append add_digit 0 whole digits ∙ ap (λ (n : ℕ). fold add_digit n digits) whole_is ∙ padded_value 9 w m lt in
    within text (w * 1000000000 + m) (ap (list_all (λ b. b == 48)) none_left) (sym sum) le

-- a number's canonical text is a number with that value
pub reads_as_it : (n : ℕ) → n ≤ 9999999999999999999 → IsNumber (number_text n) × (value_of (number_text n) ≡ Some n)
unfolding number_text
reads_as_it n le =
    let w : ℕ = n / 1000000000 in
    let m : ℕ = n % 1000000000 in
    let small : w < 2 ^ 64 = omega (arith, le) in
    let parts : w * 1000000000 + m ≡ n = omega arith in (
      is_number (decimal w) (trimmed (padded 9 m)) (decimal_nonempty w small, decimal_digits w small) (trimmed_digits (padded 9 m) (padded_digits 9 m)),
      value_back (decimal w) w m (decimal_digits w small) (decimal_value w small) (omega arith) (omega (arith, parts, le)) ∙ ap Some parts,
    )
