-- The digits that the code writes, against those of a number's canonical text.
use Rattle.std.proofs.Common.{◌≡◌, ℕ, zero, suc, ◌+◌, ◌-◌, ◌/◌, ◌%◌, ◌<◌, ◌≤◌, Bool, true, false, List, [], ◌∷◌, ◌++◌, length, get_or, take, drop, refl, sym, ap, subst, ◌∙◌, add-one, arith, append_assoc, cond}
use Rattle.std.specs.Prelude.{◌≢◌, ◌==◌, ◌&&◌}
use Rattle.std.specs.List.{list_all}
use Rattle.std.proofs.Math.ListN.{set}
use Rattle.std.proofs.Math.Seq.{take-suc}
use Rattle.std.proofs.lemmas.List.{drop-set}
use Rattle.std.proofs.lemmas.Bool.Decides.{nat_tests}
use Rattle.pddl_token.specs.NumberText.{padded, trimmed, pointed}

-- one more digit, from the right
pub digit_on : (whole : List ℕ) (place rest : ℕ) (digits : List ℕ) → 0 < place → place ≤ length digits → whole ≡ padded place rest ++ drop place digits
    → whole ≡ padded (place - 1) (rest / 10) ++ drop (place - 1) (set digits (place - 1) (48 + rest % 10))
unfolding padded
digit_on whole zero rest digits some le e = absurd (omega (arith, some))
digit_on whole (suc k) rest digits some le e =
    let one_less : suc k - 1 ≡ k = omega arith in
    let lt : k < length digits = omega (arith, le) in
    let front : List ℕ = padded k (rest / 10) in
    let digit : ℕ = 48 + rest % 10 in
    subst (λ n. whole ≡ padded n (rest / 10) ++ drop n (set digits n (48 + rest % 10))) (sym one_less)
    (e ∙ append_assoc front (digit ∷ []) (drop (suc k) digits) ∙ ap (λ (n : ℕ). front ++ digit ∷ drop n digits) (sym (add-one k)) ∙ ap (λ (t : List ℕ). front ++ t) (sym (drop-set digits k digit lt)))

pub all_digits : (whole : List ℕ) (place rest : ℕ) (digits : List ℕ) → place ≡ 0 → whole ≡ padded place rest ++ drop place digits → digits ≡ whole
unfolding padded
all_digits whole place rest digits is_zero e = sym (e ∙ ap (λ (n : ℕ). padded n rest ++ drop n digits) is_zero)

-- ---- zeros at the end

abbrev is_zero : ℕ → Bool
is_zero b = b == 48

zeros_push : (digits : List ℕ) → list_all is_zero (digits ++ 48 ∷ []) ≡ list_all is_zero digits
zeros_push [] = refl
zeros_push (digit ∷ digits) = ap (λ b. is_zero digit && b) (zeros_push digits)

trimmed_push : (digits : List ℕ) → trimmed (digits ++ 48 ∷ []) ≡ trimmed digits
trimmed_push [] = refl
trimmed_push (digit ∷ digits) =
    ap (λ b. cond (is_zero digit && b) [] (digit ∷ trimmed (digits ++ 48 ∷ []))) (zeros_push digits)
    ∙ ap (λ (t : List ℕ). cond (list_all is_zero (digit ∷ digits)) [] (digit ∷ t)) (trimmed_push digits)

and_false : (a : Bool) → (a && false) ≡ false
and_false true = refl
and_false false = refl

other_push : (digits : List ℕ) (last : ℕ) → is_zero last ≡ false → list_all is_zero (digits ++ last ∷ []) ≡ false
other_push [] last other = ap (λ b. b && true) other
other_push (digit ∷ digits) last other = ap (λ b. is_zero digit && b) (other_push digits last other) ∙ and_false (is_zero digit)

trimmed_other : (digits : List ℕ) (last : ℕ) → is_zero last ≡ false → trimmed (digits ++ last ∷ []) ≡ digits ++ last ∷ []
trimmed_other [] last other = ap (λ b. cond (b && true) [] (last ∷ [])) other
trimmed_other (digit ∷ digits) last other =
    ap (λ b. cond b [] (digit ∷ trimmed (digits ++ last ∷ []))) (other_push (digit ∷ digits) last other) ∙ ap (λ (t : List ℕ). digit ∷ t) (trimmed_other digits last other)

-- the digits up to a place and the one at its end
last_at : (digits : List ℕ) (len : ℕ) → 0 < len → len ≤ length digits → take len digits ≡ take (len - 1) digits ++ get_or digits (len - 1) 0 ∷ []
last_at digits zero some le = absurd (omega (arith, some))
last_at digits (suc k) some le = let one_less : k ≡ suc k - 1 = omega arith in take-suc digits k 0 (omega (arith, le)) ∙ ap (λ (n : ℕ). take n digits ++ get_or digits n 0 ∷ []) one_less

pub trim_on : (digits : List ℕ) (len : ℕ) → 0 < len → len ≤ length digits → get_or digits (len - 1) 0 ≡ 48 → trimmed digits ≡ trimmed (take len digits) → trimmed digits ≡ trimmed (take (len - 1) digits)
trim_on digits len some le zero_there e = e ∙ ap trimmed (last_at digits len some le ∙ ap (λ (b : ℕ). take (len - 1) digits ++ b ∷ []) zero_there) ∙ trimmed_push (take (len - 1) digits)

pub trim_stop : (digits : List ℕ) (len : ℕ) → 0 < len → len ≤ length digits → get_or digits (len - 1) 0 ≢ 48 → trimmed digits ≡ trimmed (take len digits) → take len digits ≡ trimmed digits
trim_stop digits len some le other e =
    let test : is_zero (get_or digits (len - 1) 0) ≡ false = grind (arith, nat_tests, other) in
    let last = last_at digits len some le in
    last ∙ sym (trimmed_other (take (len - 1) digits) (get_or digits (len - 1) 0) test) ∙ ap trimmed (sym last) ∙ sym e

-- ---- the point

pub pointed_some : (digits : List ℕ) → 0 < length digits → pointed digits ≡ 46 ∷ digits
pointed_some [] some = absurd (omega (arith, some))
pointed_some (digit ∷ digits) some = refl
