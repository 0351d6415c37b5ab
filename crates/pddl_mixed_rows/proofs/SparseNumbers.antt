-- Rising lists of numbers as rows of few bits.
use Rattle.std.proofs.Common.{◌≡◌, ℕ, ◌+◌, ◌-◌, ◌/◌, ◌%◌, ◌^◌, ◌*◌, ◌<◌, ◌≤◌, ◌==◌, suc, true, false, not, ◌&&◌, ◌||◌, Bool, List, [], ◌∷◌, length, get_or, refl, sym, ap, Ok, Err, subst, ◌∙◌, arith, inl, inr, take, drop, set, ◌≢◌, ◌↔◌, eq-eqb, bit_and, w64}
use Rattle.std.specs.List.{insert}
use Rattle.std.specs.Int.{bit_at, bit_not}
use Rattle.std.proofs.lemmas.Bool.{cases_Bool}
use Rattle.std.proofs.lemmas.Bool.Decides.{eqb_tells, leb_tells}
use Rattle.std.proofs.lemmas.List.{take-append-drop, get_or-set_other, get_or_past}
use Rattle.std.proofs.lemmas.List.Edits.{get_or-insert_at, get_or-insert_below, get_or-insert_above}
use Rattle.std.proofs.lemmas.List.Folds.{list_any-append, list_any_more, list_any_at}
use Rattle.std.proofs.lemmas.Grind.{get_or-set_at}
use Rattle.std.proofs.lemmas.List.Sorted.{searched}
use Rattle.std.specs.List.Sorted.{IsBinarySearchResult}
use Rattle.std.specs.Ordering.{nat_cmp}
use Rattle.std.proofs.lemmas.Nat.{mod_below}
use Rattle.std.proofs.lemmas.Nat.Bits.{bit_at_clear_same, bit_at_clear_other, bit_at-zero}
use Rattle.std.proofs.Math.Bool.{and-true, and-false}
use Rattle.pddl_bit_rows.specs.BitRows.{has_bit}
use Rattle.pddl_mixed_rows.specs.SparseRows.{has_number, AreRising}

-- numbers that rise never fall
pub never_fall : (ns : List ℕ) → AreRising ns → (i j : ℕ) → i ≤ j → j < length ns → get_or ns i 0 ≤ get_or ns j 0
never_fall ns rising i j up within = elim (leb_tells j i) [
  | inl (t, low) ↦ let is : i ≡ j = omega arith in subst (λ k. get_or ns i 0 ≤ get_or ns k 0) is (omega arith)
  | inr (t, less) ↦ let r = rising i j less within in omega (arith, r)
]

-- the place of a number that stands in the list
pub place_in : (ns : List ℕ) (x : ℕ) → has_number ns x ≡ true → (m : ℕ) × (m < length ns) × (get_or ns m 0 ≡ x)
place_in [] x h = absurd (cc)
place_in (n ∷ ns) x h = elim (eqb_tells x n) [
  | inl (t, e) ↦ (0, omega arith, sym e)
  | inr (t, ne) ↦ let rest = place_in ns x (sym (ap (λ b. b || has_number ns x) t) ∙ h) in (suc rest.0, omega (arith, rest.1), rest.2)
]

pub stands_at : (ns : List ℕ) (x m : ℕ) → m < length ns → get_or ns m 0 ≡ x → has_number ns x ≡ true
stands_at ns x m within is = list_any_at (λ n. x == n) ns m 0 within (eq-eqb x (get_or ns m 0) (sym is))

-- between what is less and what is greater a number does not stand
pub absent : (ns : List ℕ) (x p : ℕ) → ((k : ℕ) → k < p → get_or ns k 0 < x) → ((k : ℕ) → p ≤ k → k < length ns → x < get_or ns k 0) → has_number ns x ≡ false
absent ns x p below above = elim (cases_Bool (has_number ns x)) [
  | inl h ↦
      let m = place_in ns x h in
      elim (leb_tells p m.0) [
        | inl (t, up) ↦ let a = above m.0 up m.1 in absurd (omega (arith, a, m.2))
        | inr (t, low) ↦ let a = below m.0 low in absurd (omega (arith, a, m.2))
      ]
  | inr h ↦ h
]

or_swap : (a b c : Bool) → (a || (b || c)) ≡ (b || (a || c))
or_swap true true c = refl
or_swap true false c = refl
or_swap false b c = refl

pub put_has : (ns : List ℕ) (p x i : ℕ) → has_number (insert ns p x) i ≡ ((i == x) || has_number ns i)
put_has ns p x i =
    list_any-append (λ n. i == n) (take p ns) (x ∷ drop p ns) ∙ (or_swap (has_number (take p ns) i) (i == x) (has_number (drop p ns) i)
    ∙ ap (λ b. (i == x) || b) (sym (list_any-append (λ n. i == n) (take p ns) (drop p ns)) ∙ ap (λ xs. has_number xs i) (take-append-drop p ns)))

pub put_same : (ns : List ℕ) (x i : ℕ) → has_number ns x ≡ true → has_number ns i ≡ ((i == x) || has_number ns i)
put_same ns x i h = elim (eqb_tells i x) [
  | inl (t, e) ↦ ap (has_number ns) e ∙ (h ∙ sym (ap (λ b. b || has_number ns i) t))
  | inr (t, ne) ↦ sym (ap (λ b. b || has_number ns i) t)
]

-- an insert between what is less and what is greater
pub put_rises : (ns : List ℕ) (p x : ℕ) → AreRising ns → p ≤ length ns → length (insert ns p x) ≡ length ns + 1 → ((k : ℕ) → k < p → get_or ns k 0 < x) → ((k : ℕ) → p ≤ k → k < length ns → x < get_or ns k 0) → AreRising (insert ns p x)
put_rises ns p x rising within long below above i j up last =
    elim (leb_tells j p) [
      | inl (t, low) ↦
          let at_i = get_or-insert_below ns p x 0 i (omega arith) within in
          elim (leb_tells p j) [
            | inl (u, high) ↦
                let is : j ≡ p = omega arith in
                let at_j = ap (λ k. get_or (insert ns p x) k 0) is ∙ get_or-insert_at ns p x 0 within in
                let b = below i (omega arith) in
                omega (arith, at_i, at_j, b)
            | inr (u, less) ↦
                let at_j = get_or-insert_below ns p x 0 j less within in
                let r = rising i j up (omega arith) in
                omega (arith, at_i, at_j, r)
          ]
      | inr (t, past) ↦
          let is : j ≡ (j - 1) + 1 = omega arith in
          let at_j = ap (λ k. get_or (insert ns p x) k 0) is ∙ get_or-insert_above ns p x 0 (j - 1) (omega arith) within in
          elim (leb_tells i p) [
            | inl (u, low) ↦ elim (leb_tells p i) [
              | inl (v, high) ↦
                  let same : i ≡ p = omega arith in
                  let at_i = ap (λ k. get_or (insert ns p x) k 0) same ∙ get_or-insert_at ns p x 0 within in
                  let a = above (j - 1) (omega arith) (omega arith) in
                  omega (arith, at_i, at_j, a)
              | inr (v, less) ↦
                  let at_i = get_or-insert_below ns p x 0 i less within in
                  let r = rising i (j - 1) (omega arith) (omega arith) in
                  omega (arith, at_i, at_j, r)
            ]
            | inr (u, high) ↦
                let next : i ≡ (i - 1) + 1 = omega arith in
                let at_i = ap (λ k. get_or (insert ns p x) k 0) next ∙ get_or-insert_above ns p x 0 (i - 1) (omega arith) within in
                let r = rising (i - 1) (j - 1) (omega arith) (omega arith) in
                omega (arith, at_i, at_j, r)
          ]
    ]

or_false : (b : Bool) → (b || false) ≡ b
or_false true = refl
or_false false = refl

-- one number more whose bit is not set
pub none_more : (ns row : List ℕ) (k : ℕ) → k < length ns → has_bit row (get_or ns k 0) ≡ false → ((i : ℕ) → (has_number (take k ns) i && has_bit row i) ≡ false) → (i : ℕ) → (has_number (take (k + 1) ns) i && has_bit row i) ≡ false
none_more ns row k within off so_far i = ap (λ b. b && has_bit row i) (list_any_more (λ n. i == n) ns k 0 within) ∙ elim (eqb_tells i (get_or ns k 0)) [
  | inl (t, e) ↦ ap (λ b. (has_number (take k ns) i || (i == get_or ns k 0)) && b) (ap (has_bit row) e ∙ off) ∙ and-false (has_number (take k ns) i || (i == get_or ns k 0))
  | inr (t, ne) ↦ ap (λ b. (has_number (take k ns) i || b) && has_bit row i) t ∙ (ap (λ b. b && has_bit row i) (or_false (has_number (take k ns) i)) ∙ so_far i)
]

both_so : (a b : Bool) → a ≡ true → b ≡ true → (a && b) ≡ true
both_so true true p q = refl
both_so true false p q = q
both_so false b p q = p

-- one number whose bit is set
pub one_shared : (ns row : List ℕ) (k : ℕ) → k < length ns → has_bit row (get_or ns k 0) ≡ true → ((i : ℕ) → (has_number ns i && has_bit row i) ≡ false) → false ≡ true
one_shared ns row k within on none = sym (none (get_or ns k 0)) ∙ both_so (has_number ns (get_or ns k 0)) (has_bit row (get_or ns k 0)) (stands_at ns (get_or ns k 0) k within refl) on

-- one number of both
pub one_common : (a b : List ℕ) (m n : ℕ) → m < length a → n < length b → get_or a m 0 ≡ get_or b n 0 → ((i : ℕ) → (has_number a i && has_number b i) ≡ false) → false ≡ true
one_common a b m n wm wn same none = sym (none (get_or a m 0)) ∙ both_so (has_number a (get_or a m 0)) (has_number b (get_or a m 0)) (stands_at a (get_or a m 0) m wm refl) (stands_at b (get_or a m 0) n wn (sym same))

-- where numbers are shared, they are so from these two places on
abbrev pub AreSharedFrom : List ℕ → List ℕ → ℕ → ℕ → Type 0
AreSharedFrom a b i j = (m n : ℕ) → m < length a → n < length b → get_or a m 0 ≡ get_or b n 0 → (i ≤ m) × (j ≤ n)

pub step_first : (a b : List ℕ) (i j : ℕ) → AreRising b → get_or a i 0 < get_or b j 0 → AreSharedFrom a b i j → AreSharedFrom a b (i + 1) j
step_first a b i j rising less h m n wm wn same =
    let r = h m n wm wn same in
    elim (leb_tells (i + 1) m) [
      | inl (t, up) ↦ (up, r.1)
      | inr (t, low) ↦
          let from = r.0 in
          let is : m ≡ i = omega (arith, from) in
          let nf = never_fall b rising j n r.1 wn in
          let e = ap (λ k. get_or a k 0) is in
          absurd (omega (arith, nf, e, same, less))
    ]

pub step_second : (a b : List ℕ) (i j : ℕ) → AreRising a → get_or b j 0 < get_or a i 0 → AreSharedFrom a b i j → AreSharedFrom a b i (j + 1)
step_second a b i j rising less h m n wm wn same =
    let r = h m n wm wn same in
    elim (leb_tells (j + 1) n) [
      | inl (t, up) ↦ (r.0, up)
      | inr (t, low) ↦
          let from = r.1 in
          let is : n ≡ j = omega (arith, from) in
          let nf = never_fall a rising i m r.0 wm in
          let e = ap (λ k. get_or b k 0) is in
          absurd (omega (arith, nf, e, same, less))
    ]

-- lists that share no number from these places on, where one has ended
pub none_common : (a b : List ℕ) (i j : ℕ) → AreSharedFrom a b i j → ((m n : ℕ) → i ≤ m → j ≤ n → m < length a → n < length b → false ≡ true) → (x : ℕ) → (has_number a x && has_number b x) ≡ false
none_common a b i j h ended x = elim (cases_Bool (has_number a x)) [
  | inr off ↦ ap (λ v. v && has_number b x) off
  | inl on ↦ elim (cases_Bool (has_number b x)) [
    | inr off ↦ ap (λ v. has_number a x && v) off ∙ and-false (has_number a x)
    | inl also ↦
        let m = place_in a x on in
        let n = place_in b x also in
        let r = h m.0 n.0 m.1 n.1 (m.2 ∙ sym n.2) in
        let no = ended m.0 n.0 r.0 r.1 m.1 n.1 in
        absurd (cc)
  ]
]

or_turn : (t b h : Bool) → (t || (b || h)) ≡ (b || (h || t))
or_turn true true h = refl
or_turn true false true = refl
or_turn true false false = refl
or_turn false true h = refl
or_turn false false true = refl
or_turn false false false = refl

-- one number's bit more is set
pub put_more : (ns new old first : List ℕ) (k : ℕ) → k < length ns → ((i : ℕ) → has_bit new i ≡ ((i == get_or ns k 0) || has_bit old i)) → ((i : ℕ) → has_bit old i ≡ (has_bit first i || has_number (take k ns) i)) → (i : ℕ) → has_bit new i ≡ (has_bit first i || has_number (take (k + 1) ns) i)
put_more ns new old first k within put so_far i =
    put i ∙ (ap (λ b. (i == get_or ns k 0) || b) (so_far i) ∙ (or_turn (i == get_or ns k 0) (has_bit first i) (has_number (take k ns) i) ∙ ap (λ b. has_bit first i || b) (sym (list_any_more (λ n. i == n) ns k 0 within))))

and_turn : (b h t : Bool) → ((b && not h) && not t) ≡ (b && not (h || t))
and_turn true true t = refl
and_turn true false t = refl
and_turn false h t = refl

-- one number's bit more is cleared
pub clear_more : (ns new old first : List ℕ) (k : ℕ) → k < length ns → ((i : ℕ) → has_bit new i ≡ (has_bit old i && not (i == get_or ns k 0))) → ((i : ℕ) → has_bit old i ≡ (has_bit first i && not (has_number (take k ns) i))) → (i : ℕ) → has_bit new i ≡ (has_bit first i && not (has_number (take (k + 1) ns) i))
clear_more ns new old first k within put so_far i =
    put i ∙ (ap (λ b. b && not (i == get_or ns k 0)) (so_far i) ∙ (and_turn (has_bit first i) (has_number (take k ns) i) (i == get_or ns k 0) ∙ ap (λ b. has_bit first i && not b) (sym (list_any_more (λ n. i == n) ns k 0 within))))

-- clearing one bit
pub clear_bit : (row : List ℕ) (p : ℕ) → p / 64 < length row → (i : ℕ) → has_bit (set row (p / 64) (bit_and (get_or row (p / 64) 0) (bit_not w64 (1 * 2 ^ (p % 64) % 2 ^ 64)))) i ≡ (has_bit row i && not (i == p))
unfolding has_bit
clear_bit row p room i =
    let within : p % 64 < 64 = mod_below p 64 (omega arith) in
    let word : ℕ = get_or row (p / 64) 0 in
    let new : ℕ = bit_and (get_or row (p / 64) 0) (bit_not w64 (1 * 2 ^ (p % 64) % 2 ^ 64)) in
    elim (eqb_tells (i / 64) (p / 64)) [
      | inl (t, same) ↦
          let got : get_or (set row (p / 64) new) (i / 64) 0 ≡ new = get_or-set_at row (p / 64) (i / 64) new 0 same room in
          elim (eqb_tells i p) [
            | inl (s, e) ↦ ap (λ w. bit_at w (i % 64) == 1) got ∙ (ap (λ j. bit_at new (j % 64) == 1) e ∙ (ap (λ w. w == 1) (bit_at_clear_same w64 word (p % 64) within) ∙ sym (ap (λ b. (bit_at (get_or row (i / 64) 0) (i % 64) == 1) && not b) s ∙ and-false (bit_at (get_or row (i / 64) 0) (i % 64) == 1))))
            | inr (s, ne) ↦
                let other : i % 64 ≢ p % 64 = λ q. ne (omega arith) in
                ap (λ w. bit_at w (i % 64) == 1) got ∙ (ap (λ w. w == 1) (bit_at_clear_other w64 word (p % 64) within (i % 64) (mod_below i 64 (omega arith)) other) ∙ (ap (λ k. bit_at (get_or row k 0) (i % 64) == 1) (sym same) ∙ sym (ap (λ b. (bit_at (get_or row (i / 64) 0) (i % 64) == 1) && not b) s ∙ and-true (bit_at (get_or row (i / 64) 0) (i % 64) == 1))))
          ]
      | inr (t, other) ↦
          elim (eqb_tells i p) [
            | inl (s, e) ↦ absurd (other (ap (λ k. k / 64) e))
            | inr (s, ne) ↦ ap (λ w. bit_at w (i % 64) == 1) (get_or-set_other row (p / 64) (i / 64) new 0 other) ∙ sym (ap (λ b. (bit_at (get_or row (i / 64) 0) (i % 64) == 1) && not b) s ∙ and-true (bit_at (get_or row (i / 64) 0) (i % 64) == 1))
          ]
    ]

bits_past : (row : List ℕ) (p : ℕ) → length row ≤ p / 64 → has_bit row p ≡ false
unfolding has_bit
bits_past row p past = ap (λ w. bit_at w (p % 64) == 1) (get_or_past row (p / 64) 0 past) ∙ ap (λ w. w == 1) (bit_at-zero (p % 64))

-- a bit past the row is not set, so there is none to clear
pub clear_past : (row : List ℕ) (p : ℕ) → length row ≤ p / 64 → (i : ℕ) → has_bit row i ≡ (has_bit row i && not (i == p))
clear_past row p past i = elim (eqb_tells i p) [
  | inl (t, e) ↦
      let off = ap (has_bit row) e ∙ bits_past row p past in
      off ∙ sym (ap (λ b. b && not (i == p)) off)
  | inr (t, ne) ↦ sym (ap (λ b. has_bit row i && not b) t ∙ and-true (has_bit row i))
]

-- the test of a binary search over rising numbers
pub found_none : (ns : List ℕ) (x p : ℕ) → AreRising ns → IsBinarySearchResult (λ y. nat_cmp y x) ns (Err p) → (p ≤ length ns) × ((k : ℕ) → k < p → get_or ns k 0 < x) × ((k : ℕ) → p ≤ k → k < length ns → x < get_or ns k 0)
found_none ns x p rising h = searched ns x (Err p) h (never_fall ns rising)

pub found_one : (ns : List ℕ) (x p : ℕ) → AreRising ns → IsBinarySearchResult (λ y. nat_cmp y x) ns (Ok p) → has_number ns x ≡ true
found_one ns x p rising h = let r = searched ns x (Ok p) h (never_fall ns rising) in stands_at ns x p r.0 r.1

-- no number is past the last one
pub last_reaches : (ns : List ℕ) (size last : ℕ) → AreRising ns → get_or ns (length ns - 1) 0 ≡ last → last / 64 + 1 ≤ size → (k : ℕ) → k < length ns → get_or ns k 0 / 64 < size
last_reaches ns size last rising is room k within = let nf = never_fall ns rising k (length ns - 1) (omega arith) (omega arith) in omega (arith, nf, is, room)

-- the same answer about the same tests
pub same_test : (f g p q : ℕ → Bool) (r : Bool) → ((i : ℕ) → p i ≡ f i) → ((i : ℕ) → q i ≡ g i) → (r ≡ true) ↔ ((i : ℕ) → (f i && g i) ≡ false) → (r ≡ true) ↔ ((i : ℕ) → (p i && q i) ≡ false)
same_test f g p q r e d h = (λ t i. ap (λ b. b && q i) (e i) ∙ (ap (λ b. f i && b) (d i) ∙ h.0 t i), λ none. h.1 (λ i. ap (λ b. b && g i) (sym (e i)) ∙ (ap (λ b. p i && b) (sym (d i)) ∙ none i)))

and_swap : (a b : Bool) → (a && b) ≡ (b && a)
and_swap true true = refl
and_swap true false = refl
and_swap false true = refl
and_swap false false = refl

pub swapped_test : (p q : ℕ → Bool) (r : Bool) → (r ≡ true) ↔ ((i : ℕ) → (p i && q i) ≡ false) → (r ≡ true) ↔ ((i : ℕ) → (q i && p i) ≡ false)
swapped_test p q r h = (λ t i. and_swap (q i) (p i) ∙ h.0 t i, λ none. h.1 (λ i. and_swap (p i) (q i) ∙ none i))
