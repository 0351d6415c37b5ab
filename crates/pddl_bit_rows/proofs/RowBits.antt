-- Bits of rows, from what their words are.
use Rattle.std.proofs.Common.{◌≡◌, ℕ, ◌+◌, ◌-◌, ◌*◌, ◌/◌, ◌%◌, ◌^◌, ◌<◌, ◌==◌, zero, suc, min, max, false, not, ◌&&◌, ◌||◌, List, length, get_or, refl, sym, ap, ap₂, ◌∙◌, arith, bit_and, bit_or, w64, ◌↔◌, ◌≢◌, inl, inr, set, take, drop, ◌++◌, []}
use Rattle.std.specs.Int.{bit_at, bit_not}
use Rattle.std.proofs.lemmas.Nat.Bits.{bit_at_or, bit_at_and, bit_at_not, bit_at-lt, bit_at_set_same, bit_at_set_other, bit_at-zero, bit_at_above, same_from_bits}
use Rattle.std.proofs.lemmas.Nat.{mod_below}
use Rattle.std.proofs.lemmas.Bool.Decides.{eqb_tells, leb_tells}
use Rattle.std.proofs.lemmas.Grind.{get_or-set_at}
use Rattle.std.proofs.lemmas.List.{get_or-set_other}
use Rattle.std.proofs.Math.Seq.{take-append_seam}
use Rattle.pddl_bit_rows.specs.BitRows.{has_bit}

both_max : (x y : ℕ) → x < 2 → y < 2 → (max x y == 1) ≡ ((x == 1) || (y == 1))
both_max zero zero p q = refl
both_max zero (suc zero) p q = refl
both_max (suc zero) zero p q = refl
both_max (suc zero) (suc zero) p q = refl
both_max (suc (suc x)) y p q = absurd (omega arith)
both_max zero (suc (suc y)) p q = absurd (omega arith)
both_max (suc zero) (suc (suc y)) p q = absurd (omega arith)

pub both_min : (x y : ℕ) → x < 2 → y < 2 → (min x y == 1) ≡ ((x == 1) && (y == 1))
both_min zero zero p q = refl
both_min zero (suc zero) p q = refl
both_min (suc zero) zero p q = refl
both_min (suc zero) (suc zero) p q = refl
both_min (suc (suc x)) y p q = absurd (omega arith)
both_min zero (suc (suc y)) p q = absurd (omega arith)
both_min (suc zero) (suc (suc y)) p q = absurd (omega arith)

not_one : (y : ℕ) → y < 2 → (1 - y == 1) ≡ not (y == 1)
not_one zero p = refl
not_one (suc zero) p = refl
not_one (suc (suc y)) p = absurd (omega arith)

-- the same words, the same bits
pub same_bits : (n r : List ℕ) → ((k : ℕ) → get_or n k 0 ≡ get_or r k 0) → (i : ℕ) → has_bit n i ≡ has_bit r i
unfolding has_bit
same_bits n r h i = ap (λ w. bit_at w (i % 64) == 1) (h (i / 64))

pub united_bits : (n r m : List ℕ) → ((k : ℕ) → get_or n k 0 ≡ bit_or (get_or r k 0) (get_or m k 0)) → (i : ℕ) → has_bit n i ≡ (has_bit r i || has_bit m i)
unfolding has_bit
united_bits n r m h i =
    let j = i % 64 in
    ap (λ w. bit_at w (i % 64) == 1) (h (i / 64)) ∙ (ap (λ w. w == 1) (bit_at_or (get_or r (i / 64) 0) (get_or m (i / 64) 0) (i % 64))
    ∙ both_max (bit_at (get_or r (i / 64) 0) (i % 64)) (bit_at (get_or m (i / 64) 0) (i % 64)) (bit_at-lt (get_or r (i / 64) 0) (i % 64)) (bit_at-lt (get_or m (i / 64) 0) (i % 64)))

pub taken_bits : (n r l : List ℕ) → ((k : ℕ) → get_or l k 0 < 2 ^ 64) → ((k : ℕ) → get_or n k 0 ≡ bit_and (get_or r k 0) (bit_not w64 (get_or l k 0))) → (i : ℕ) → has_bit n i ≡ (has_bit r i && not (has_bit l i))
unfolding has_bit
taken_bits n r l fits h i =
    let x = get_or r (i / 64) 0 in
    let y = get_or l (i / 64) 0 in
    let off = bit_at_not w64 (get_or l (i / 64) 0) (i % 64) (fits (i / 64)) (mod_below i 64 (omega arith)) in
    ap (λ w. bit_at w (i % 64) == 1) (h (i / 64)) ∙ (ap (λ w. w == 1) (bit_at_and x (bit_not w64 y) (i % 64))
    ∙ (both_min (bit_at x (i % 64)) (bit_at (bit_not w64 y) (i % 64)) (bit_at-lt x (i % 64)) (bit_at-lt (bit_not w64 y) (i % 64))
    ∙ ap (λ b. (bit_at x (i % 64) == 1) && b) (ap (λ w. w == 1) off ∙ not_one (bit_at y (i % 64)) (bit_at-lt y (i % 64)))))

pub put_bit : (row : List ℕ) (p : ℕ) → p / 64 < length row → (i : ℕ) → has_bit (set row (p / 64) (bit_or (get_or row (p / 64) 0) (1 * 2 ^ (p % 64) % 2 ^ 64))) i ≡ ((i == p) || has_bit row i)
unfolding has_bit
put_bit row p room i =
    let within : p % 64 < 64 = mod_below p 64 (omega arith) in
    let word : ℕ = get_or row (p / 64) 0 in
    let new : ℕ = bit_or (get_or row (p / 64) 0) (1 * 2 ^ (p % 64) % 2 ^ 64) in
    elim (eqb_tells (i / 64) (p / 64)) [
      | inl (t, same) ↦
          let got : get_or (set row (p / 64) new) (i / 64) 0 ≡ new = get_or-set_at row (p / 64) (i / 64) new 0 same room in
          elim (eqb_tells i p) [
            | inl (s, e) ↦ ap (λ w. bit_at w (i % 64) == 1) got ∙ (ap (λ j. bit_at new (j % 64) == 1) e ∙ (ap (λ w. w == 1) (bit_at_set_same w64 word (p % 64) within) ∙ sym (ap (λ b. b || (bit_at (get_or row (i / 64) 0) (i % 64) == 1)) s)))
            | inr (s, ne) ↦
                let other : i % 64 ≢ p % 64 = λ q. ne (omega arith) in
                ap (λ w. bit_at w (i % 64) == 1) got ∙ (ap (λ w. w == 1) (bit_at_set_other w64 word (p % 64) within (i % 64) other) ∙ (ap (λ k. bit_at (get_or row k 0) (i % 64) == 1) (sym same) ∙ sym (ap (λ b. b || (bit_at (get_or row (i / 64) 0) (i % 64) == 1)) s)))
          ]
      | inr (t, other) ↦
          elim (eqb_tells i p) [
            | inl (s, e) ↦ absurd (other (ap (λ k. k / 64) e))
            | inr (s, ne) ↦ ap (λ w. bit_at w (i % 64) == 1) (get_or-set_other row (p / 64) (i / 64) new 0 other) ∙ sym (ap (λ b. b || (bit_at (get_or row (i / 64) 0) (i % 64) == 1)) s)
          ]
    ]

bit_of : (m : ℕ) → m < 2 → (m == 1) ≡ false → m ≡ 0
bit_of zero p e = refl
bit_of (suc zero) p e = absurd (cc)
bit_of (suc (suc m)) p e = absurd (omega arith)

pub shared_bits : (a b : List ℕ) → ((k : ℕ) → get_or a k 0 < 2 ^ 64) → ((k : ℕ) → bit_and (get_or a k 0) (get_or b k 0) ≡ 0) ↔ ((i : ℕ) → (has_bit a i && has_bit b i) ≡ false)
unfolding has_bit
shared_bits a b fits = (
  λ h i.
      let x : ℕ = get_or a (i / 64) 0 in
      let y : ℕ = get_or b (i / 64) 0 in
      let j : ℕ = i % 64 in
      sym (both_min (bit_at x j) (bit_at y j) (bit_at-lt x j) (bit_at-lt y j)) ∙ (ap (λ w. w == 1) (sym (bit_at_and x y j)) ∙ (ap (λ w. bit_at w j == 1) (h (i / 64)) ∙ ap (λ w. w == 1) (bit_at-zero j))),
  λ h k. same_from_bits (bit_and (get_or a k 0) (get_or b k 0)) 0 (λ j.
      let x : ℕ = get_or a k 0 in
      let y : ℕ = get_or b k 0 in
      bit_at_and x y j ∙ (least_bit a b fits h k j ∙ sym (bit_at-zero j))),
)
  where
    least_bit : (a b : List ℕ) → ((k : ℕ) → get_or a k 0 < 2 ^ 64) → ((i : ℕ) → ((bit_at (get_or a (i / 64) 0) (i % 64) == 1) && (bit_at (get_or b (i / 64) 0) (i % 64) == 1)) ≡ false) → (k j : ℕ) → min (bit_at (get_or a k 0) j) (bit_at (get_or b k 0) j) ≡ 0
    least_bit a b fits h k j =
        let x : ℕ = get_or a k 0 in
        let y : ℕ = get_or b k 0 in
        let lx = bit_at-lt (get_or a k 0) j in
        let ly = bit_at-lt (get_or b k 0) j in
        elim (leb_tells 64 j) [
          | inr (t, low) ↦
              let at : (64 * k + j) / 64 ≡ k = omega arith in
              let rest : (64 * k + j) % 64 ≡ j = omega arith in
              let here : ((bit_at (get_or a k 0) j == 1) && (bit_at (get_or b k 0) j == 1)) ≡ false =
              sym (ap₂ (λ m n. (bit_at (get_or a m 0) n == 1) && (bit_at (get_or b m 0) n == 1)) at rest) ∙ h (64 * k + j) in
              bit_of (min (bit_at x j) (bit_at y j)) (omega arith) (both_min (bit_at x j) (bit_at y j) lx ly ∙ here)
          | inl (t, high) ↦ let none = bit_at_above (get_or a k 0) 64 j (fits k) (omega arith) in omega arith
        ]

-- a slice written back into a `Vec` of its length
pub refilled : (n : ℕ) (ws xs : List ℕ) → length ws ≡ n → length xs ≡ n → take n (ws ++ drop (length ws) xs) ≡ ws
refilled n ws xs e f = ap (λ m. take m (ws ++ drop (length ws) xs)) (sym e) ∙ take-append_seam ws (drop (length ws) xs)

pub no_bits : (i : ℕ) → has_bit [] i ≡ false
unfolding has_bit
no_bits i = ap (λ w. w == 1) (bit_at-zero (i % 64))
