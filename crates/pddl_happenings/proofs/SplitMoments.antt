-- The groups of a split are the happenings of a timed plan in which the k-th group has the moment k, from 1.
use Rattle.std.proofs.Common.{Some, ◌≡◌, ℕ, zero, suc, ◌+◌, ◌<◌, Bool, true, false, cond, ◌||◌, List, [], ◌∷◌, ◌++◌, map, refl, sym, ap, ◌∙◌, arith, length, eqb, eq-eqb}
use Rattle.std.specs.Prelude.{◌==◌}
use Rattle.std.specs.List.{list_any, AllByRecursion}
use Rattle.std.specs.Ordering.{nat_cmp}
use Rattle.std.specs.Cmp.{nat_cmp_is}
use Rattle.std.specs.List.Sorted.{IsStrictlySortedBy}
use Rattle.std.specs.declared.cmp.Ordering.TheVariants.{Less}
use Rattle.std.proofs.lemmas.List.Folds.{list_any-append}
use Rattle.pddl_happenings.proofs.Cut.{HasStep}
use Rattle.pddl_happenings.proofs.TimedHappenings.{unequal}
use Rattle.pddl_happenings.specs.Happenings.{AreOfTimed, numbers_from, numbers_to}
use Rattle.pddl_happenings.specs.Splits.{numbered, split_moments}

-- steps at moment i, seen from moment m
passed_over : (j i m : ℕ) (g ys : List ℕ) → (i == m) ≡ false → numbers_from j (λ n. n == m) (map (λ k. i) g ++ ys) ≡ numbers_from (j + length g) (λ n. n == m) ys
passed_over j i m [] ys off = let e : j ≡ j + 0 = omega arith in ap (λ k. numbers_from k (λ n. n == m) ys) e
passed_over j i m (x ∷ g) ys off =
    let e : (j + 1) + length g ≡ j + length (x ∷ g) = omega arith in
    ap (λ b. cond b (j ∷ numbers_from (j + 1) (λ n. n == m) (map (λ k. i) g ++ ys)) (numbers_from (j + 1) (λ n. n == m) (map (λ k. i) g ++ ys))) off
    ∙ (passed_over (j + 1) i m g ys off ∙ ap (λ k. numbers_from k (λ n. n == m) ys) e)

none_later : (gs : List (List ℕ)) (j i l : ℕ) → i < l → numbers_from j (λ n. n == i) (split_moments l gs) ≡ []
none_later [] j i l lt = refl
none_later (g ∷ gs) j i l lt =
    passed_over j l i g (split_moments (l + 1) gs) (unequal l i (λ e. absurd (omega (arith, e, lt)))) ∙ none_later gs (j + length g) i (l + 1) (omega (arith, lt))

-- and from their own
all_taken : (j i : ℕ) (g ys : List ℕ) → ((k : ℕ) → numbers_from k (λ n. n == i) ys ≡ []) → numbers_from j (λ n. n == i) (map (λ k. i) g ++ ys) ≡ numbers_to j (length g)
all_taken j i [] ys none = none j
all_taken j i (x ∷ g) ys none =
    ap (λ b. cond b (j ∷ numbers_from (j + 1) (λ n. n == i) (map (λ k. i) g ++ ys)) (numbers_from (j + 1) (λ n. n == i) (map (λ k. i) g ++ ys))) (eq-eqb i i refl)
    ∙ ap (λ l. j ∷ l) (all_taken (j + 1) i g ys none)

rest_taken : (j i : ℕ) (g ys : List ℕ) (l n : ℕ) → i < l → map (λ m. numbers_from j (λ n. n == m) (map (λ k. i) g ++ ys)) (numbers_to l n) ≡ map (λ m. numbers_from (j + length g) (λ n. n == m) ys) (numbers_to l n)
rest_taken j i g ys l zero lt = refl
rest_taken j i g ys l (suc n) lt =
    let head : numbers_from j (λ n. n == l) (map (λ k. i) g ++ ys) ≡ numbers_from (j + length g) (λ n. n == l) ys = passed_over j i l g ys (unequal i l (λ e. absurd (omega (arith, e, lt)))) in
    let tail : map (λ m. numbers_from j (λ n. n == m) (map (λ k. i) g ++ ys)) (numbers_to (l + 1) n) ≡ map (λ m. numbers_from (j + length g) (λ n. n == m) ys) (numbers_to (l + 1) n) = rest_taken j i g ys (l + 1) n (omega (arith, lt)) in
    cc

numbered_at : (gs : List (List ℕ)) (j i : ℕ) → numbered j gs ≡ map (λ m. numbers_from j (λ n. n == m) (split_moments i gs)) (numbers_to i (length gs))
numbered_at [] j i = refl
numbered_at (g ∷ gs) j i =
    let ys : List ℕ = split_moments (i + 1) gs in
    let lt : i < i + 1 = omega arith in
    let head : numbers_from j (λ n. n == i) (map (λ k. i) g ++ ys) ≡ numbers_to j (length g) = all_taken j i g ys (λ k. none_later gs k i (i + 1) lt) in
    let tail : numbered (j + length g) gs ≡ map (λ m. numbers_from j (λ n. n == m) (map (λ k. i) g ++ ys)) (numbers_to (i + 1) (length gs)) = numbered_at gs (j + length g) (i + 1) ∙ sym (rest_taken j i g ys (i + 1) (length gs) lt) in
    cc

any_const : (m i : ℕ) (g : List ℕ) → HasStep g → list_any (eqb m) (map (λ k. i) g) ≡ eqb m i
any_const m i [] some = absurd (some refl)
any_const m i (x ∷ g) some = go g
  where
    idle : (b : Bool) → (b || b) ≡ b
    idle true = refl
    idle false = refl

    or_none : (b : Bool) → (b || false) ≡ b
    or_none true = refl
    or_none false = refl

    go : (g : List ℕ) → (eqb m i || list_any (eqb m) (map (λ k. i) g)) ≡ eqb m i
    go [] = or_none (eqb m i)
    go (y ∷ g) = ap (λ b. eqb m i || b) (go g) ∙ idle (eqb m i)

same_moments : (gs : List (List ℕ)) (i m : ℕ) → AllByRecursion HasStep gs → list_any (eqb m) (numbers_to i (length gs)) ≡ list_any (eqb m) (split_moments i gs)
same_moments [] i m some = refl
same_moments (g ∷ gs) i m some =
    ap (λ b. eqb m i || b) (same_moments gs (i + 1) m some.1)
    ∙ (ap (λ b. b || list_any (eqb m) (split_moments (i + 1) gs)) (sym (any_const m i g some.0)) ∙ sym (list_any-append (eqb m) (map (λ k. i) g) (split_moments (i + 1) gs)))

rise : (i n l : ℕ) → i < l → AllByRecursion (λ y. nat_cmp i y ≡ Less) (numbers_to l n)
rise i zero l lt = tt
rise i (suc n) l lt = (sym (nat_cmp_is i l Less lt), rise i n (l + 1) (omega (arith, lt)))

rising : (i n : ℕ) → IsStrictlySortedBy nat_cmp (numbers_to i n)
unfolding IsStrictlySortedBy
rising i zero = tt
rising i (suc n) = (rise i n (i + 1) (omega arith), rising (i + 1) n)

pub split_timed : (gs : List (List ℕ)) → AllByRecursion HasStep gs → AreOfTimed (split_moments 1 gs) (map (λ m. Some m) (numbers_to 1 (length gs))) (numbered 0 gs)
split_timed gs some = record {
  moments = numbers_to 1 (length gs);
  are = record { rising = rising 1 (length gs); same = λ m. same_moments gs 1 m some };
  moments_are = refl;
  steps_are = numbered_at gs 0 1;
}
