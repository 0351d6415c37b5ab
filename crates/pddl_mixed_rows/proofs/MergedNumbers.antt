-- Two rising lists of numbers merged into one.
use Rattle.std.proofs.Common.{◌≡◌, ℕ, ◌+◌, ◌-◌, ◌<◌, ◌≤◌, ◌==◌, Bool, true, false, ◌||◌, List, [], ◌∷◌, ◌++◌, length, get_or, take, drop, refl, sym, ap, ◌∙◌, subst, arith, inl, inr, length-append, length-drop}
use Rattle.std.specs.Prelude.{◌⊎◌}
use Rattle.std.proofs.lemmas.Bool.{cases_order}
use Rattle.std.proofs.lemmas.Bool.Decides.{leb_tells}
use Rattle.std.proofs.lemmas.List.{get_or_append_left, get_or-append_right, get_or-drop, take-append-drop, take_all, drop_all, append-nil}
use Rattle.std.proofs.lemmas.List.Folds.{list_any-append, list_any_more}
use Rattle.pddl_mixed_rows.specs.SparseRows.{has_number, AreRising}
use Rattle.pddl_mixed_rows.proofs.SparseNumbers.{never_fall}

-- ---- what rises

pub rising_append : (xs ys : List ℕ) → AreRising xs → AreRising ys → ((k m : ℕ) → k < length xs → m < length ys → get_or xs k 0 < get_or ys m 0) → AreRising (xs ++ ys)
rising_append xs ys rx ry less i j up last =
    let many = length-append xs ys in
    elim (leb_tells (length xs) j) [
      | inl (t, late) ↦
          let at_j = get_or-append_right xs ys (length xs) j 0 refl late in
          elim (leb_tells (length xs) i) [
            | inl (u, late_i) ↦
                let at_i = get_or-append_right xs ys (length xs) i 0 refl late_i in
                let r = ry (i - length xs) (j - length xs) (omega arith) (omega arith) in
                omega (arith, at_i, at_j, r)
            | inr (u, early) ↦
                let at_i = get_or_append_left xs ys 0 i early in
                let l = less i (j - length xs) early (omega arith) in
                omega (arith, at_i, at_j, l)
          ]
      | inr (t, early) ↦
          let at_j = get_or_append_left xs ys 0 j early in
          let at_i = get_or_append_left xs ys 0 i (omega arith) in
          let r = rx i j up early in
          omega (arith, at_i, at_j, r)
    ]

pub one_rises : (x : ℕ) → AreRising (x ∷ [])
one_rises x i j up last = absurd (omega (arith, up, last))

pub rising_push : (xs : List ℕ) (y : ℕ) → AreRising xs → ((k : ℕ) → k < length xs → get_or xs k 0 < y) → AreRising (xs ++ y ∷ [])
rising_push xs y rising less = rising_append xs (y ∷ []) rising (one_rises y) at
  where
    at : (k m : ℕ) → k < length xs → m < length (y ∷ []) → get_or xs k 0 < get_or (y ∷ []) m 0
    at k m low only = let first : 0 ≡ m = omega (arith, only) in subst (λ n. get_or xs k 0 < get_or (y ∷ []) n 0) first (less k low)

drop_at : (xs : List ℕ) (i k : ℕ) → get_or (drop i xs) k 0 ≡ get_or xs (i + k) 0
drop_at xs i k = get_or-drop i xs k 0

rising_drop : (xs : List ℕ) (i : ℕ) → AreRising xs → AreRising (drop i xs)
rising_drop xs i rising k m up last =
    let many = length-drop i xs in
    let r = rising (i + k) (i + m) (omega arith) (omega arith) in
    omega (arith, drop_at xs i k, drop_at xs i m, r)

-- ---- the merge

-- a list has the numbers before two places of two lists, and all of them are less than those from there on
pub record AreMerged (a b all : List ℕ) (i j : ℕ) : Type 0 where
  pub within : i ≤ length a
  pub other_within : j ≤ length b
  pub rising : AreRising all
  pub less : (k m : ℕ) → k < length all → i ≤ m → m < length a → get_or all k 0 < get_or a m 0
  pub other_less : (k m : ℕ) → k < length all → j ≤ m → m < length b → get_or all k 0 < get_or b m 0
  pub same : (v : ℕ) → has_number all v ≡ (has_number (take i a) v || has_number (take j b) v)

pub merge_start : (a b all : List ℕ) → all ≡ [] → AreMerged a b all 0 0
merge_start a b all none = subst (λ l. AreMerged a b l 0 0) (sym none) (record {
  within = omega arith;
  other_within = omega arith;
  rising = λ i j up low. absurd (omega (arith, low));
  less = λ k m low from within. absurd (omega (arith, low));
  other_less = λ k m low from within. absurd (omega (arith, low));
  same = λ v. refl;
})

or_first : (p q e : Bool) → ((p || q) || (e || false)) ≡ ((p || e) || q)
or_first true q e = refl
or_first false true true = refl
or_first false true false = refl
or_first false false true = refl
or_first false false false = refl

or_second : (p q e : Bool) → ((p || q) || (e || false)) ≡ (p || (q || e))
or_second true q e = refl
or_second false true e = refl
or_second false false true = refl
or_second false false false = refl

or_both : (p q e : Bool) → ((p || q) || (e || false)) ≡ ((p || e) || (q || e))
or_both true q e = refl
or_both false true true = refl
or_both false true false = refl
or_both false false true = refl
or_both false false false = refl

module _ (a b all : List ℕ) (ra : AreRising a) (rb : AreRising b) (i j : ℕ) (low : i < length a) (other_low : j < length b) (so_far : AreMerged a b all i j) where
  abbrev x : ℕ
  x = get_or a i 0

  abbrev y : ℕ
  y = get_or b j 0

  -- every number of the list and a further one z stand before one that is not less than x, or than y
  all_before : (z w : ℕ) → ((k : ℕ) → k < length all → get_or all k 0 < w) → z < w → (k : ℕ) → k < length (all ++ z ∷ []) → get_or (all ++ z ∷ []) k 0 < w
  all_before z w each last k within = elim (leb_tells (length all) k) [
    | inl (t, end) ↦
        let is : k - length all ≡ 0 = omega (arith, within, length-append all (z ∷ [])) in
        let at = get_or-append_right all (z ∷ []) (length all) k 0 refl end ∙ ap (λ n. get_or (z ∷ []) n 0) is in
        omega (arith, at, last)
    | inr (t, before) ↦
        let at = get_or_append_left all (z ∷ []) 0 k before in
        let e = each k before in
        omega (arith, at, e)
  ]

  with_last : (z v : ℕ) → has_number (all ++ z ∷ []) v ≡ ((has_number (take i a) v || has_number (take j b) v) || ((v == z) || false))
  with_last z v = list_any-append (λ n. v == n) all (z ∷ []) ∙ ap (λ c. c || ((v == z) || false)) (so_far.same v)

  take_first : (v : ℕ) → has_number (take (i + 1) a) v ≡ (has_number (take i a) v || (v == x))
  take_first v = list_any_more (λ n. v == n) a i 0 low

  take_second : (v : ℕ) → has_number (take (j + 1) b) v ≡ (has_number (take j b) v || (v == y))
  take_second v = list_any_more (λ n. v == n) b j 0 other_low

  -- a number is not less than the one at an earlier place
  from_first : (m : ℕ) → i ≤ m → m < length a → x ≤ get_or a m 0
  from_first m up within = never_fall a ra i m up within

  from_second : (m : ℕ) → j ≤ m → m < length b → y ≤ get_or b m 0
  from_second m up within = never_fall b rb j m up within

  take_less : x < y → AreMerged a b (all ++ x ∷ []) (i + 1) j
  take_less lt = record {
    within = omega arith;
    other_within = so_far.other_within;
    rising = rising_push all x so_far.rising (λ k before. so_far.less k i before (omega arith) low);
    less = λ k m before up within.
        let next = ra i m (omega arith) within in
        all_before x (get_or a m 0) (λ n here. so_far.less n m here (omega arith) within) next k before;
    other_less = λ k m before up within.
        let far = from_second m up within in
        all_before x (get_or b m 0) (λ n here. so_far.other_less n m here up within) (omega arith) k before;
    same = λ v. with_last x v ∙ (or_first (has_number (take i a) v) (has_number (take j b) v) (v == x) ∙ ap (λ c. c || has_number (take j b) v) (sym (take_first v)));
  }

  take_more_than : y < x → AreMerged a b (all ++ y ∷ []) i (j + 1)
  take_more_than lt = record {
    within = so_far.within;
    other_within = omega arith;
    rising = rising_push all y so_far.rising (λ k before. so_far.other_less k j before (omega arith) other_low);
    less = λ k m before up within.
        let far = from_first m up within in
        all_before y (get_or a m 0) (λ n here. so_far.less n m here up within) (omega arith) k before;
    other_less = λ k m before up within.
        let next = rb j m (omega arith) within in
        all_before y (get_or b m 0) (λ n here. so_far.other_less n m here (omega arith) within) next k before;
    same = λ v. with_last y v ∙ (or_second (has_number (take i a) v) (has_number (take j b) v) (v == y) ∙ ap (λ c. has_number (take i a) v || c) (sym (take_second v)));
  }

  take_same : x ≡ y → AreMerged a b (all ++ x ∷ []) (i + 1) (j + 1)
  take_same is = record {
    within = omega arith;
    other_within = omega arith;
    rising = rising_push all x so_far.rising (λ k before. so_far.less k i before (omega arith) low);
    less = λ k m before up within.
        let next = ra i m (omega arith) within in
        all_before x (get_or a m 0) (λ n here. so_far.less n m here (omega arith) within) next k before;
    other_less = λ k m before up within.
        let next = rb j m (omega arith) within in
        all_before x (get_or b m 0) (λ n here. so_far.other_less n m here (omega arith) within) (omega (arith, next, is)) k before;
    same = λ v. with_last x v ∙ (or_both (has_number (take i a) v) (has_number (take j b) v) (v == x)
        ∙ (ap (λ c. c || (has_number (take j b) v || (v == x))) (sym (take_first v))
        ∙ ap (λ c. has_number (take (i + 1) a) v || c) (ap (λ w. has_number (take j b) v || (v == w)) is ∙ sym (take_second v))));
  }

  -- the lesser of the two is taken, and both places go on where it is both
  pub merge_step : (z m n : ℕ) → (x ≤ y → (z ≡ x) × (m ≡ i + 1)) → (y < x → (z ≡ y) × (m ≡ i)) → (y ≤ x → n ≡ j + 1) → (x < y → n ≡ j) → AreMerged a b (all ++ z ∷ []) m n
  merge_step z m n up down other_up other_down = elim (cases_order x y) [
    | inl same ↦
        let one = up (omega arith) in
        at (sym one.0) (sym one.1) (sym (other_up (omega arith))) (take_same same)
    | inr (inl lt) ↦
        let one = up (omega arith) in
        at (sym one.0) (sym one.1) (sym (other_down lt)) (take_less lt)
    | inr (inr gt) ↦
        let one = down gt in
        at (sym one.0) (sym one.1) (sym (other_up (omega arith))) (take_more_than gt)
  ]
    where
      at : {w p q : ℕ} → w ≡ z → p ≡ m → q ≡ n → AreMerged a b (all ++ w ∷ []) p q → AreMerged a b (all ++ z ∷ []) m n
      at {w} {p} {q} e f g h =
          subst (λ k. AreMerged a b (all ++ z ∷ []) m k) g (subst (λ k. AreMerged a b (all ++ z ∷ []) k q) f (subst (λ k. AreMerged a b (all ++ k ∷ []) p q) e h))

-- ---- where one of the two lists has ended

rest_whole : (xs : List ℕ) (i : ℕ) → take (length xs - i) (drop i xs) ≡ drop i xs
rest_whole xs i = take_all (length xs - i) (drop i xs) (omega (arith, length-drop i xs))

pub rest_both : (all a b : List ℕ) (i j : ℕ) → (all ++ take (length a - i) (drop i a)) ++ take (length b - j) (drop j b) ≡ (all ++ drop i a) ++ drop j b
rest_both all a b i j = ap (λ l. (all ++ l) ++ take (length b - j) (drop j b)) (rest_whole a i) ∙ ap (λ l. (all ++ drop i a) ++ l) (rest_whole b j)

or_four : (p q r s : Bool) → (((p || q) || r) || s) ≡ ((p || r) || (q || s))
or_four true q r s = refl
or_four false true true s = refl
or_four false true false s = refl
or_four false false r s = refl

halves : (xs : List ℕ) (i v : ℕ) → (has_number (take i xs) v || has_number (drop i xs) v) ≡ has_number xs v
halves xs i v = sym (list_any-append (λ n. v == n) (take i xs) (drop i xs)) ∙ ap (λ l. has_number l v) (take-append-drop i xs)

module _ (a b all : List ℕ) (ra : AreRising a) (rb : AreRising b) (i j : ℕ) (so_far : AreMerged a b all i j) where
  pub merge_same : (v : ℕ) → has_number ((all ++ drop i a) ++ drop j b) v ≡ (has_number a v || has_number b v)
  merge_same v =
      list_any-append (λ n. v == n) (all ++ drop i a) (drop j b)
      ∙ (ap (λ c. c || has_number (drop j b) v) (list_any-append (λ n. v == n) all (drop i a) ∙ ap (λ c. c || has_number (drop i a) v) (so_far.same v))
      ∙ (or_four (has_number (take i a) v) (has_number (take j b) v) (has_number (drop i a) v) (has_number (drop j b) v)
      ∙ (ap (λ c. c || (has_number (take j b) v || has_number (drop j b) v)) (halves a i v) ∙ ap (λ c. has_number a v || c) (halves b j v))))

  before_rest : (k m : ℕ) → k < length all → m < length (drop i a) → get_or all k 0 < get_or (drop i a) m 0
  before_rest k m here there =
      let l = so_far.less k (i + m) here (omega arith) (omega (arith, there, length-drop i a)) in
      omega (arith, l, drop_at a i m)

  before_other : (k m : ℕ) → k < length all → m < length (drop j b) → get_or all k 0 < get_or (drop j b) m 0
  before_other k m here there =
      let l = so_far.other_less k (j + m) here (omega arith) (omega (arith, there, length-drop j b)) in
      omega (arith, l, drop_at b j m)

  pub merge_rises : (length a ≤ i) ⊎ (length b ≤ j) → AreRising ((all ++ drop i a) ++ drop j b)
  merge_rises (inl end) =
      let none : drop i a ≡ [] = drop_all i a end in
      subst (λ l. AreRising ((all ++ l) ++ drop j b)) (sym none) (subst (λ l. AreRising (l ++ drop j b)) (sym (append-nil all)) (rising_append all (drop j b) so_far.rising (rising_drop b j rb) before_other))
  merge_rises (inr end) =
      let none : drop j b ≡ [] = drop_all j b end in
      subst (λ l. AreRising ((all ++ drop i a) ++ l)) (sym none) (subst AreRising (sym (append-nil (all ++ drop i a))) (rising_append all (drop i a) so_far.rising (rising_drop a i ra) before_rest))
