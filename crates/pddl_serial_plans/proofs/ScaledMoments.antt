-- The happenings of a timed plan stay as they are where all moments are multiplied by one number.
use Rattle.std.proofs.Common.{◌≡◌, ◌<◌, ◌+◌, ◌*◌, ◌/◌, ℕ, Bool, true, false, ◌||◌, cond, List, [], ◌∷◌, map, refl, sym, ap, ◌∙◌, subst, eqb, eq-eqb}
use Rattle.std.specs.Prelude.{Some, ◌==◌}
use Rattle.std.specs.Cmp.{nat_cmp_is, ranked}
use Rattle.std.specs.List.{list_any, AllByRecursion}
use Rattle.std.specs.List.Sorted.{IsStrictlySortedBy}
use Rattle.std.specs.Ordering.{nat_cmp}
use Rattle.std.specs.declared.cmp.Ordering.TheVariants.{Less}
use Rattle.std.proofs.Math.Nat.{mul-lt-mul_of_pos_right, mul-div_cancel}
use Rattle.std.proofs.lemmas.Bool.{eqb-true, true≢false}
use Rattle.pddl_happenings.specs.Happenings.{AreOfTimed, numbers_from, steps_at}
use Rattle.pddl_happenings.proofs.TimedHappenings.{unequal}

module _ (c : ℕ) (some : 0 < c) where
  abbrev times : ℕ → ℕ
  times m = m * c

  up : (m n : ℕ) → m < n → times m < times n
  up m n lt = mul-lt-mul_of_pos_right lt some

  one : (m n : ℕ) → times m ≡ times n → m ≡ n
  one m n same = sym (mul-div_cancel m some) ∙ ap (λ k. k / c) same ∙ mul-div_cancel n some

  alike : (n m : ℕ) → eqb (times n) (times m) ≡ eqb n m
  alike n m = elim (eqb n m) as (λ b. eqb n m ≡ b → eqb (times n) (times m) ≡ b) [
    | true ↦ λ e. eq-eqb (times n) (times m) (ap times (eqb-true n m e))
    | false ↦ λ e. unequal (times n) (times m) (λ same. true≢false (sym (eq-eqb n m (one n m same)) ∙ e))
  ] refl

  -- ---- in rising order

  later : (m : ℕ) (ns : List ℕ) → AllByRecursion (λ n. nat_cmp m n ≡ Less) ns → AllByRecursion (λ n. nat_cmp (times m) n ≡ Less) (map times ns)
  later m [] all = tt
  later m (n ∷ ns) all = (sym (nat_cmp_is (times m) (times n) Less (up m n (ranked m n Less (sym all.0)))), later m ns all.1)

  rising : (ms : List ℕ) → IsStrictlySortedBy nat_cmp ms → IsStrictlySortedBy nat_cmp (map times ms)
  unfolding IsStrictlySortedBy
  rising [] sorted = tt
  rising (m ∷ ms) sorted = (later m ms sorted.0, rising ms sorted.1)

  -- ---- the same ones

  still_in : (m : ℕ) (ms : List ℕ) → list_any (eqb m) ms ≡ true → list_any (eqb (times m)) (map times ms) ≡ true
  still_in m [] on = on
  still_in m (n ∷ ms) on = elim (eqb m n) as (λ b. eqb m n ≡ b → (b || list_any (eqb m) ms) ≡ true → (eqb (times m) (times n) || list_any (eqb (times m)) (map times ms)) ≡ true) [
    | true ↦ λ e _. ap (λ b. b || list_any (eqb (times m)) (map times ms)) (alike m n ∙ e)
    | false ↦ λ e on. ap (λ b. b || list_any (eqb (times m)) (map times ms)) (alike m n ∙ e) ∙ still_in m ms on
  ] refl on

  itself : (m : ℕ) (ms : List ℕ) → list_any (eqb m) (m ∷ ms) ≡ true
  itself m ms = ap (λ b. b || list_any (eqb m) ms) (eq-eqb m m refl)

  -- a multiple among some is the multiple of one of them
  among : (k : ℕ) (ms ns : List ℕ) → ((m : ℕ) → list_any (eqb m) ms ≡ true → list_any (eqb m) ns ≡ true) → list_any (eqb k) (map times ms) ≡ true → list_any (eqb k) (map times ns) ≡ true
  among k [] ns each on = absurd (true≢false (sym on))
  among k (m ∷ ms) ns each on = elim (eqb k (times m)) as (λ b. eqb k (times m) ≡ b → (b || list_any (eqb k) (map times ms)) ≡ true → list_any (eqb k) (map times ns) ≡ true) [
    | true ↦ λ e _. subst (λ j. list_any (eqb j) (map times ns) ≡ true) (sym (eqb-true k (times m) e)) (still_in m ns (each m (itself m ms)))
    | false ↦ λ _ on. among k ms ns (λ n is. each n (or_later (eqb n m) (list_any (eqb n) ms) is)) on
  ] refl on
    where
      or_later : (a b : Bool) → b ≡ true → (a || b) ≡ true
      or_later true b is = refl
      or_later false b is = is

  both : (a b : Bool) → (a ≡ true → b ≡ true) → (b ≡ true → a ≡ true) → a ≡ b
  both true b to back = sym (to refl)
  both false true to back = back refl
  both false false to back = refl

  same_ones : (ms ns : List ℕ) → ((m : ℕ) → list_any (eqb m) ms ≡ list_any (eqb m) ns) → (k : ℕ) → list_any (eqb k) (map times ms) ≡ list_any (eqb k) (map times ns)
  same_ones ms ns same k =
      both (list_any (eqb k) (map times ms)) (list_any (eqb k) (map times ns)) (among k ms ns (λ m on. sym (same m) ∙ on)) (among k ns ms (λ m on. same m ∙ on))

  -- ---- the steps at each

  numbers_same : (i m : ℕ) (ms : List ℕ) → numbers_from i (λ n. n == times m) (map times ms) ≡ numbers_from i (λ n. n == m) ms
  numbers_same i m [] = refl
  numbers_same i m (n ∷ ms) =
      ap (λ b. cond b (i ∷ numbers_from (i + 1) (λ k. k == times m) (map times ms)) (numbers_from (i + 1) (λ k. k == times m) (map times ms))) (alike n m)
      ∙ ap (λ l. cond (eqb n m) (i ∷ l) l) (numbers_same (i + 1) m ms)

  all_same : (ms moments : List ℕ) → map (steps_at (map times ms)) (map times moments) ≡ map (steps_at ms) moments
  all_same ms [] = refl
  all_same ms (m ∷ moments) = ap (λ l. l ∷ map (steps_at (map times ms)) (map times moments)) (numbers_same 0 m ms) ∙ ap (λ l. steps_at ms m ∷ l) (all_same ms moments)

  -- ---- moments as they are told

  somes_once : (ms ns : List ℕ) → map (λ m. Some m) ms ≡ map (λ n. Some n) ns → ms ≡ ns
  somes_once [] [] same = refl
  somes_once [] (n ∷ ns) same = cc
  somes_once (m ∷ ms) [] same = cc
  somes_once (m ∷ ms) (n ∷ ns) same =
      let head : m ≡ n = cc in
      let rest : map (λ m. Some m) ms ≡ map (λ n. Some n) ns = cc in
      ap (λ k. k ∷ ms) head ∙ ap (λ l. n ∷ l) (somes_once ms ns rest)

  each_some : (ms : List ℕ) → map (λ m. Some (times m)) ms ≡ map (λ m. Some m) (map times ms)
  each_some [] = refl
  each_some (m ∷ ms) = ap (λ l. Some (times m) ∷ l) (each_some ms)

  pub scaled : (ms moments : List ℕ) (gs : List (List ℕ)) → AreOfTimed ms (map (λ m. Some m) moments) gs → AreOfTimed (map times ms) (map (λ m. Some (times m)) moments) gs
  scaled ms moments gs of = record {
    moments = map times of.moments;
    are = record { rising = rising of.moments of.are.rising; same = same_ones of.moments ms of.are.same };
    moments_are = each_some moments ∙ ap (λ l. map (λ m. Some m) (map times l)) (somes_once moments of.moments of.moments_are);
    steps_are = of.steps_are ∙ sym (all_same ms of.moments);
  }
