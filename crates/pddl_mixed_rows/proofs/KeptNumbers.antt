-- Some numbers of a rising list: those that pass a test, and the first of them from a number on.
use Rattle.std.proofs.Common.{◌≡◌, ℕ, suc, ◌<◌, ◌≤◌, ◌==◌, Bool, true, false, cond, ◌&&◌, ◌||◌, List, [], ◌∷◌, length, get_or, filter, refl, sym, ap, ◌∙◌, subst, arith, inl, inr}
use Rattle.std.proofs.lemmas.Bool.{cases_Bool}
use Rattle.std.proofs.lemmas.Bool.Decides.{eqb_tells, leb_tells}
use Rattle.std.proofs.Math.Bool.{and-false}
use Rattle.pddl_mixed_rows.specs.SparseRows.{has_number, AreRising}
use Rattle.pddl_mixed_rows.proofs.MergedNumbers.{rising_append, one_rises}
use Rattle.pddl_mixed_rows.proofs.SparseNumbers.{never_fall, place_in, stands_at}

-- ---- those that pass a test

pub has_filter : (p : ℕ → Bool) (ns : List ℕ) (i : ℕ) → has_number (filter p ns) i ≡ (has_number ns i && p i)
has_filter p [] i = refl
has_filter p (n ∷ ns) i = elim (eqb_tells i n) [
  | inl (t, same) ↦ elim (cases_Bool (p n)) [
    | inl on ↦
        ap (λ b. has_number (cond b (n ∷ filter p ns) (filter p ns)) i) on ∙ (ap (λ b. b || has_number (filter p ns) i) t ∙ sym (ap (λ b. (b || has_number ns i) && p i) t ∙ (ap p same ∙ on)))
    | inr off ↦
        let away : p i ≡ false = ap p same ∙ off in
        ap (λ b. has_number (cond b (n ∷ filter p ns) (filter p ns)) i) off ∙ (has_filter p ns i ∙ (ap (λ b. has_number ns i && b) away ∙ (and-false (has_number ns i) ∙ sym (ap (λ b. ((i == n) || has_number ns i) && b) away ∙ and-false ((i == n) || has_number ns i)))))
  ]
  | inr (t, other) ↦
      let skip : has_number (cond (p n) (n ∷ filter p ns) (filter p ns)) i ≡ has_number (filter p ns) i =
      elim (p n) as (λ b. has_number (cond b (n ∷ filter p ns) (filter p ns)) i ≡ has_number (filter p ns) i) [ true ↦ ap (λ b. b || has_number (filter p ns) i) t | false ↦ refl ] in
      skip ∙ (has_filter p ns i ∙ sym (ap (λ b. (b || has_number ns i) && p i) t))
]

rising_cons : (x : ℕ) (ys : List ℕ) → AreRising ys → ((m : ℕ) → m < length ys → x < get_or ys m 0) → AreRising (x ∷ ys)
rising_cons x ys rising more = rising_append (x ∷ []) ys (one_rises x) rising (λ k m one low.
    let first : 0 ≡ k = omega (arith, one) in
    subst (λ n. get_or (x ∷ []) n 0 < get_or ys m 0) first (more m low))

pub rising_filter : (p : ℕ → Bool) (ns : List ℕ) → AreRising ns → AreRising (filter p ns)
rising_filter p [] rising = rising
rising_filter p (n ∷ ns) rising =
    let rest : AreRising (filter p ns) = rising_filter p ns (λ i j up low. rising (suc i) (suc j) (omega (arith, up)) (omega (arith, low))) in
    elim (p n) as (λ b. AreRising (cond b (n ∷ filter p ns) (filter p ns))) [
      | true ↦ rising_cons n (filter p ns) rest later
      | false ↦ rest
    ]
  where
    both_true : (a b : Bool) → (a && b) ≡ true → a ≡ true
    both_true true b on = refl
    both_true false b on = on

    later : (m : ℕ) → m < length (filter p ns) → n < get_or (filter p ns) m 0
    later m low =
        let there : has_number ns (get_or (filter p ns) m 0) ≡ true =
        both_true (has_number ns (get_or (filter p ns) m 0)) (p (get_or (filter p ns) m 0)) (sym (has_filter p ns (get_or (filter p ns) m 0)) ∙ stands_at (filter p ns) (get_or (filter p ns) m 0) m low refl) in
        let at = place_in ns (get_or (filter p ns) m 0) there in
        let up = rising 0 (suc at.0) (omega arith) (omega (arith, at.1)) in
        omega (arith, up, at.2)

-- ---- from a number on

-- between a number and what is not beyond the next one, no number passes where those before the next one do not
pub none_between : (ns : List ℕ) (row : ℕ → Bool) (from place at : ℕ) → AreRising ns → ((k : ℕ) → k < at → k < length ns → from ≤ get_or ns k 0 → row (get_or ns k 0) ≡ false) → (at < length ns → place ≤ get_or ns at 0)
    → (i : ℕ) → from ≤ i → i < place → (has_number ns i && row i) ≡ false
none_between ns row from place at rising passed next i up low = elim (cases_Bool (has_number ns i)) [
  | inr off ↦ ap (λ b. b && row i) off
  | inl on ↦
      let m = place_in ns i on in
      elim (leb_tells at m.0) [
        | inl (t, late) ↦
            let far = next (omega (arith, late, m.1)) in
            let nf = never_fall ns rising at m.0 late m.1 in
            absurd (omega (arith, far, nf, m.2, low))
        | inr (t, early) ↦
            let off : row i ≡ false = subst (λ n. row n ≡ false) m.2 (passed m.0 early m.1 (omega (arith, up, m.2))) in
            ap (λ b. has_number ns i && b) off ∙ and-false (has_number ns i)
      ]
]

pub stands_and : (ns : List ℕ) (row : ℕ → Bool) (m x : ℕ) → m < length ns → get_or ns m 0 ≡ x → row x ≡ true → (has_number ns x && row x) ≡ true
stands_and ns row m x low is on = ap (λ b. b && row x) (stands_at ns x m low is) ∙ on

pub swapped : (a b : ℕ → Bool) (r : Bool) (i : ℕ) → (a i && b i) ≡ r → (b i && a i) ≡ r
swapped a b r i h = and_turned (b i) (a i) ∙ h
  where
    and_turned : (p q : Bool) → (p && q) ≡ (q && p)
    and_turned true true = refl
    and_turned true false = refl
    and_turned false true = refl
    and_turned false false = refl
