-- The value of a number, digit by digit.
use Rattle.std.proofs.Common.{◌≡◌, ℕ, ◌+◌, ◌*◌, ◌-◌, ◌≤◌, ◌<◌, true, false, List, [], ◌∷◌, ◌++◌, length, take, drop, get_or, replicate, Some, None, refl, sym, ap, ◌∙◌, arith, subst}
use Rattle.std.specs.Prelude.{◌==◌, nat_le, ◌&&◌}
use Rattle.std.specs.List.{fold, list_all, prefix_len}
use Rattle.std.specs.Char.{is_ascii_digit}
use Rattle.std.proofs.lemmas.Bool.{cond-true, cond-false, and_from, and_left, and_right, le-leb, lt-leb}
use Rattle.std.proofs.lemmas.List.{take-append-drop, get_or-take, get_or_append_left, get_or-append_right, get_or-replicate}
use Rattle.std.proofs.lemmas.List.Sums.{fold-append, fold_more}
use Rattle.std.proofs.lemmas.Option.{cond_some}
use Rattle.pddl_token.specs.Number.{decimals_of, nine_of, add_digit, billionths_of, value_of, largest}
use Rattle.pddl_token.proofs.Tests.{both_true}

-- digits never make a number less
fold_grows : (n : ℕ) (digits : List ℕ) → n ≤ fold add_digit n digits
fold_grows n [] = omega arith
fold_grows n (digit ∷ digits) = omega (arith, fold_grows (add_digit n digit) digits)

-- nor do fewer digits make it more
fold_part : (n : ℕ) (digits : List ℕ) (i : ℕ) → fold add_digit n (take i digits) ≤ fold add_digit n digits
fold_part n digits i =
    let whole : fold add_digit n digits ≡ fold add_digit (fold add_digit n (take i digits)) (drop i digits) = ap (fold add_digit n) (sym (take-append-drop i digits)) ∙ fold-append add_digit n (take i digits) (drop i digits) in
    omega (arith, whole, fold_grows (fold add_digit n (take i digits)) (drop i digits))

-- what is too large after some digits is so after all
pub too_large : (limit n longer i : ℕ) (digits : List ℕ) → i < length digits → longer ≡ fold add_digit n (take i digits) → limit < add_digit longer (get_or digits i 0) → limit < fold add_digit n digits
too_large limit n longer i digits lt so_far over =
    omega (arith, fold_more add_digit n digits i 0 lt, fold_part n digits (i + 1), so_far, over)

-- a decimal that is there
pub nine_inside : (decimals : List ℕ) (place : ℕ) → place < 9 → place < length decimals → get_or (nine_of decimals) place 0 ≡ get_or decimals place 0
nine_inside decimals place lt inside = get_or-take 9 (decimals ++ replicate 9 48) place 0 lt ∙ get_or_append_left decimals (replicate 9 48) 0 place inside

-- a decimal that is filled up
pub nine_outside : (decimals : List ℕ) (place : ℕ) → place < 9 → length decimals ≤ place → get_or (nine_of decimals) place 0 ≡ 48
nine_outside decimals place lt outside =
    get_or-take 9 (decimals ++ replicate 9 48) place 0 lt
    ∙ get_or-append_right decimals (replicate 9 48) (length decimals) place 0 refl outside
    ∙ get_or-replicate 9 (place - length decimals) 48 0 (omega arith)

-- no decimal is filled up with nine zeros
pub nine_zeros : (n : ℕ) (decimals : List ℕ) → length decimals ≡ 0 → fold add_digit n (nine_of decimals) ≡ n * 1000000000
nine_zeros n [] none = omega arith
nine_zeros n (decimal ∷ decimals) none = absurd (omega (arith, none))

-- a tenth decimal leaves no value
pub more_decimals : (text : List ℕ) → list_all (λ b. b == 48) (drop 9 (decimals_of text)) ≡ false → value_of text ≡ None
more_decimals text other = cond-false _ _ _ (and_left _ _ other)

-- a number over the largest has no value
pub over : (text : List ℕ) → 9999999999999999999 < billionths_of text → value_of text ≡ None
over text lt = cond-false _ _ _ (and_right _ _ (lt-leb _ _ lt))

-- any other number has its value
pub within : (text : List ℕ) (n : ℕ) → list_all (λ b. b == 48) (drop 9 (decimals_of text)) ≡ true → n ≡ billionths_of text → n ≤ 9999999999999999999 → value_of text ≡ Some n
within text n all n_is le = cond-true _ _ _ (and_from _ _ all (le-leb _ _ (omega (arith, n_is, le)))) ∙ ap Some (sym n_is)

-- digits before the point over the largest leave no value
pub whole_over : (text : List ℕ) → 9999999999999999999 < fold add_digit 0 (take (prefix_len is_ascii_digit text) text) → value_of text ≡ None
whole_over text lt =
    let whole : List ℕ = take (prefix_len is_ascii_digit text) text in
    over text (omega (arith, lt, fold-append add_digit 0 whole (nine_of (decimals_of text)), fold_grows (fold add_digit 0 whole) (nine_of (decimals_of text))))

-- a value is in range
pub value_in_range : (text : List ℕ) (n : ℕ) → value_of text ≡ Some n → nat_le n largest ≡ true
value_in_range text n e =
    let nine = list_all (λ b. b == 48) (drop 9 (decimals_of text)) in
    let parts = cond_some (nine && nat_le (billionths_of text) largest) (billionths_of text) n e in
    subst (λ m. nat_le m largest ≡ true) parts.1 (both_true nine (nat_le (billionths_of text) largest) parts.0).1
