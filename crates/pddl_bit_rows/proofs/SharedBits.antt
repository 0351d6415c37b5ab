-- The bits that two rows share, by what is left of a word of both from a place on.
use Rattle.std.proofs.Common.{◌≡◌, ◌≢◌, ℕ, ◌+◌, ◌-◌, ◌/◌, ◌%◌, ◌^◌, ◌<◌, ◌≤◌, ◌==◌, ◌&&◌, true, false, List, get_or, sym, ap, ap₂, subst, ◌∙◌, inl, inr, arith, bit_and, w64}
use Rattle.std.specs.Int.{bit_at, trailing_zeros}
use Rattle.std.proofs.lemmas.Bool.Decides.{leb_tells}
use Rattle.std.proofs.lemmas.Nat.{and_le_l, shr-shr, shr_le}
use Rattle.std.proofs.lemmas.Nat.Bits.{bit_at_and, bit_at_above, bit_at-lt, bit_at-zero, bit_at-trailing_zeros}
use Rattle.pddl_bit_rows.specs.BitRows.{has_bit}
use Rattle.pddl_bit_rows.proofs.RowBits.{both_min}

-- what two words share from the place p on, of the bits of p's word
abbrev pub shared_rest : ℕ → ℕ → ℕ → ℕ
shared_rest x y p = bit_and x y / 2 ^ (p % 64)

rest_bit : (x s j : ℕ) → bit_at (x / 2 ^ s) j ≡ bit_at x (s + j)
rest_bit x s j = ap (λ n. n % 2) (shr-shr x s j)

-- a bit that stands j places past p in p's word
shared_bit : (a b : List ℕ) (x y p j : ℕ) → x ≡ get_or a (p / 64) 0 → y ≡ get_or b (p / 64) 0 → p % 64 + j < 64
    → (has_bit a (p + j) && has_bit b (p + j)) ≡ (bit_at (shared_rest x y p) j == 1)
unfolding has_bit
shared_bit a b x y p j is_x is_y below =
    let k : (p + j) / 64 ≡ p / 64 = omega arith in
    let i : (p + j) % 64 ≡ p % 64 + j = omega arith in
    ap₂ (λ m n. (bit_at (get_or a m 0) n == 1) && (bit_at (get_or b m 0) n == 1)) k i
    ∙ (ap₂ (λ v w. (bit_at v (p % 64 + j) == 1) && (bit_at w (p % 64 + j) == 1)) (sym is_x) (sym is_y)
    ∙ (sym (both_min (bit_at x (p % 64 + j)) (bit_at y (p % 64 + j)) (bit_at-lt x (p % 64 + j)) (bit_at-lt y (p % 64 + j)))
    ∙ ap (λ n. n == 1) (sym (bit_at_and x y (p % 64 + j)) ∙ sym (rest_bit (bit_and x y) (p % 64) j))))

-- where nothing is left of a word, the rows share no bit up to its end
pub shared_none : (a b : List ℕ) (x y p : ℕ) → x ≡ get_or a (p / 64) 0 → y ≡ get_or b (p / 64) 0 → shared_rest x y p ≡ 0
    → (i : ℕ) → p ≤ i → i < p + (64 - p % 64) → (has_bit a i && has_bit b i) ≡ false
shared_none a b x y p is_x is_y none i from below =
    let P : ℕ → Type 0 = λ n. (has_bit a n && has_bit b n) ≡ false in
    let at : p + (i - p) ≡ i = omega arith in
    subst P at (shared_bit a b x y p (i - p) is_x is_y (omega arith) ∙ (ap (λ w. bit_at w (i - p) == 1) none ∙ ap (λ n. n == 1) (bit_at-zero (i - p))))

-- else they share none before its lowest bit, and that one
pub record SharedFrom (a b : List ℕ) (p q : ℕ) : Type 0 where
  pub passed : (i : ℕ) → p ≤ i → i < q → (has_bit a i && has_bit b i) ≡ false
  pub found : (has_bit a q && has_bit b q) ≡ true

pub shared_lowest : (a b : List ℕ) (x y p : ℕ) → x ≡ get_or a (p / 64) 0 → y ≡ get_or b (p / 64) 0 → x < 2 ^ 64 → shared_rest x y p ≢ 0
    → SharedFrom a b p (p + trailing_zeros w64 (shared_rest x y p))
shared_lowest a b x y p is_x is_y fits some =
    let both_fit : bit_and x y < 2 ^ 64 = omega (arith, and_le_l x y) in
    let small : shared_rest x y p < 2 ^ 64 = omega (arith, shr_le (bit_and x y) (p % 64)) in
    let lowest = bit_at-trailing_zeros w64 (shared_rest x y p) (omega arith) small in
    let within : p % 64 + trailing_zeros w64 (shared_rest x y p) < 64 = elim (leb_tells 64 (p % 64 + trailing_zeros w64 (shared_rest x y p))) [
      | inr (e, low) ↦ low
      | inl (e, high) ↦
          let none = bit_at_above (bit_and x y) 64 (p % 64 + trailing_zeros w64 (shared_rest x y p)) both_fit high in
          let bit = sym (rest_bit (bit_and x y) (p % 64) (trailing_zeros w64 (shared_rest x y p))) ∙ lowest.1 in
          absurd (omega arith)
    ] in
    let P : ℕ → Type 0 = λ n. (has_bit a n && has_bit b n) ≡ false in
    record {
      passed = λ i from below.
          let at : p + (i - p) ≡ i = omega arith in
          subst P at (shared_bit a b x y p (i - p) is_x is_y (omega arith) ∙ ap (λ n. n == 1) (lowest.2 (i - p) (omega arith)));
      found = shared_bit a b x y p (trailing_zeros w64 (shared_rest x y p)) is_x is_y within ∙ ap (λ n. n == 1) lowest.1;
    }
