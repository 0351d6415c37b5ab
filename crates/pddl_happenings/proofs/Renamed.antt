-- A plan that has the steps of another at other numbers does what the other does.
use Rattle.std.proofs.Common.{◌≡◌, ℕ, zero, suc, ◌+◌, ◌≤◌, ◌<◌, Bool, not, ◌&&◌, ◌||◌, List, [], ◌∷◌, ◌++◌, refl, sym, ap, ◌∙◌, arith, length, get_or, drop, eqb, eq-eqb, map, subst, length-append}
use Rattle.std.specs.Prelude.{Contains}
use Rattle.std.specs.List.{list_any, concat, IsDistinct, AllByRecursion}
use Rattle.std.proofs.lemmas.Bool.{true≢false}
use Rattle.std.proofs.lemmas.List.Sums.{sum_by-cons}
use Rattle.std.proofs.lemmas.List.Elements.{All-contains, All-from_recursion}
use Rattle.std.proofs.lemmas.Map.Keys.{apart_from_distinct}
use Rattle.pddl_happenings.proofs.Members.{All-from_contains, Contains-cons, Contains-head}
use Rattle.pddl_happenings.specs.Accepted.{AllFine, IsAcceptedRun, IsFine, IsReady, after, after_all, cost_of, cost_of_all}
use Rattle.pddl_happenings.specs.Happenings.{numbers_to, singles}
use Rattle.pddl_happenings.specs.Splits.{AreStepsOf, numbered}
use Rattle.pddl_happenings.specs.Steps.{Step, clash}

-- a step of the image of a group
contains_map : (f : ℕ → ℕ) (g : List ℕ) (h : ℕ) → Contains g h → Contains (map f g) (f h)
contains_map f [] h c = absurd (omega (arith, c.1))
contains_map f (x ∷ g) h (zero, lt, e) = subst (λ y. Contains (map f (x ∷ g)) (f y)) e (Contains-head (f x) (map f g))
contains_map f (x ∷ g) h (suc i, lt, e) = Contains-cons (f x) (map f g) (f h) (contains_map f g h (i, omega (arith, lt), e))

-- f sends no two numbers of a group to one
abbrev Differ : (ℕ → ℕ) → List ℕ → Type 0
Differ f g = (h k : ℕ) → Contains g h → Contains g k → f h ≡ f k → h ≡ k

module _ {A : Type 0} (p q : ℕ → Step A) (f : ℕ → ℕ) where
  abbrev Same : List ℕ → Type 0
  Same g = AllByRecursion (λ k. q k ≡ p (f k)) g

  any_same : (test : Step A → Bool) (g : List ℕ) → Same g → list_any (λ k. test (q k)) g ≡ list_any (λ k. test (p k)) (map f g)
  any_same test [] same = refl
  any_same test (k ∷ g) same =
      let head : test (q k) ≡ test (p (f k)) = ap test same.0 in
      let tail : list_any (λ j. test (q j)) g ≡ list_any (λ j. test (p j)) (map f g) = any_same test g same.1 in
      cc

  cost_same : (s : A → Bool) (g : List ℕ) → Same g → cost_of q s g ≡ cost_of p s (map f g)
  cost_same s [] same = refl
  cost_same s (k ∷ g) same =
      let head : (q k).cost s ≡ (p (f k)).cost s = ap (λ (h : Step A). h.cost s) same.0 in
      sum_by-cons (λ h. (q h).cost s) k g ∙ (ap (λ n. n + cost_of q s g) head ∙ (ap (λ n. (p (f k)).cost s + n) (cost_same s g same.1) ∙ sym (sum_by-cons (λ h. (p h).cost s) (f k) (map f g))))

  after_same : (s : A → Bool) (g : List ℕ) → Same g → after q s g ≡ after p s (map f g)
  after_same s g same = λ i a.
      ((ap (λ b. (s a && not b) || list_any (λ h. (q h).adds s a) g) (any_same (λ h. h.dels s a) g same))
      ∙ ap (λ b. (s a && not (list_any (λ h. (p h).dels s a) (map f g))) || b) (any_same (λ h. h.adds s a) g same)) i

  fine_same : (s : A → Bool) (g : List ℕ) → Same g → Differ f g → IsFine p s (map f g) → IsFine q s g
  fine_same s g same differ fine =
      let at : (k : ℕ) → Contains g k → q k ≡ p (f k) = λ k c. All-contains (λ j. q j ≡ p (f j)) g k (All-from_recursion _ _ same) c in
      record {
        ready = All-from_contains (IsReady q s) g (λ k c. ap (λ (h : Step A). h.ready s) (at k c) ∙ All-contains (IsReady p s) (map f g) (f k) fine.ready (contains_map f g k c));
        apart = λ h k ch ck ne a. ap (λ (x : Step A). clash x (q k) s a) (at h ch) ∙ (ap (λ (x : Step A). clash (p (f h)) x s a) (at k ck) ∙ fine.apart (f h) (f k) (contains_map f g h ch) (contains_map f g k ck) (λ e. ne (differ h k ch ck e)) a);
      }

  -- what groups do
  pub record DoAs (s : A → Bool) (gs : List (List ℕ)) (hs : List (List ℕ)) : Type 0 where
    pub fine : AllFine p s hs → AllFine q s gs
    pub end : after_all q s gs ≡ after_all p s hs
    pub cost : cost_of_all q s gs ≡ cost_of_all p s hs

  do_as : (s : A → Bool) (gs : List (List ℕ)) → AllByRecursion Same gs → AllByRecursion (Differ f) gs → DoAs s gs (map (map f) gs)
  do_as s [] same differ = record { fine = λ _. tt; end = refl; cost = refl }
  do_as s (g ∷ gs) same differ =
      let t : A → Bool = after p s (map f g) in
      let is : after q s g ≡ t = after_same s g same.0 in
      let rest : DoAs t gs (map (map f) gs) = do_as t gs same.1 differ.1 in
      record {
        fine = λ fine. (fine_same s g same.0 differ.0 fine.0, subst (λ u. AllFine q u gs) (sym is) (rest.fine fine.1));
        end = ap (λ u. after_all q u gs) is ∙ rest.end;
        cost = ap (λ n. n + cost_of_all q (after q s g) gs) (cost_same s g same.0) ∙ ap (λ n. cost_of p s (map f g) + n) (ap (λ u. cost_of_all q u gs) is ∙ rest.cost);
      }

-- ---- the groups by their new numbers
next_of : (xs : List ℕ) (i x : ℕ) (ys : List ℕ) → drop i xs ≡ x ∷ ys → (get_or xs i 0 ≡ x) × (drop (i + 1) xs ≡ ys) × (i < length xs)
next_of [] zero x ys e = cc
next_of [] (suc i) x ys e = cc
next_of (y ∷ xs) zero x ys e = let h : y ≡ x = cc in let t : xs ≡ ys = cc in (h, t, omega arith)
next_of (y ∷ xs) (suc i) x ys e =
    let n = next_of xs i x ys e in
    let s : suc i + 1 ≡ suc (i + 1) = omega arith in
    (n.0, ap (λ k. drop k (y ∷ xs)) s ∙ n.1, omega (arith, n.2))

module _ (xs : List ℕ) where
  abbrev at : ℕ → ℕ
  at k = get_or xs k 0

  read : (g rest : List ℕ) (i : ℕ) → drop i xs ≡ g ++ rest → (map at (numbers_to i (length g)) ≡ g) × (drop (i + length g) xs ≡ rest)
  read [] rest i e = let z : i + 0 ≡ i = omega arith in (refl, ap (λ k. drop k xs) z ∙ e)
  read (x ∷ g) rest i e =
      let n = next_of xs i x (g ++ rest) e in
      let m = read g rest (i + 1) n.1 in
      let s : i + length (x ∷ g) ≡ (i + 1) + length g = omega arith in
      let head : at i ≡ x = n.0 in
      let tail : map at (numbers_to (i + 1) (length g)) ≡ g = m.0 in
      (cc, ap (λ k. drop k xs) s ∙ m.1)

  read_all : (gs : List (List ℕ)) (i : ℕ) → drop i xs ≡ concat gs → map (map at) (numbered i gs) ≡ gs
  read_all [] i e = refl
  read_all (g ∷ gs) i e =
      let m = read g (concat gs) i e in
      let head : map at (numbers_to i (length g)) ≡ g = m.0 in
      let tail : map (map at) (numbered (i + length g) gs) ≡ gs = read_all gs (i + length g) m.1 in
      cc

each_below : (P : ℕ → Type 0) (i n most : ℕ) → i + n ≤ most → ((k : ℕ) → k < most → P k) → AllByRecursion P (numbers_to i n)
each_below P i zero most h each = tt
each_below P i (suc n) most h each = (each i (omega (arith, h)), each_below P (i + 1) n most (omega (arith, h)) each)

all_below : (P : ℕ → Type 0) (gs : List (List ℕ)) (i most : ℕ) → i + length (concat gs) ≤ most → ((k : ℕ) → k < most → P k) → AllByRecursion (AllByRecursion P) (numbered i gs)
all_below P [] i most h each = tt
all_below P (g ∷ gs) i most h each =
    let l = length-append g (concat gs) in
    (each_below P i (length g) most (omega (arith, h, l)) each, all_below P gs (i + length g) most (omega (arith, h, l)) each)

-- numbers that are listed once are at one place
one_place : (xs : List ℕ) → IsDistinct eqb xs → (h k : ℕ) → h < length xs → k < length xs → get_or xs h 0 ≡ get_or xs k 0 → h ≡ k
one_place xs once h k lh lk same =
    let up : (i j : ℕ) → i < j → j < length xs → get_or xs i 0 ≡ get_or xs j 0 → ⊥ = λ i j lt below e. true≢false (sym (eq-eqb (get_or xs i 0) (get_or xs j 0) e) ∙ apart_from_distinct eqb xs i j 0 once lt below) in
    let off1 : h < k → ⊥ = λ lt. up h k lt lk same in
    let off2 : k < h → ⊥ = λ lt. up k h lt lh (sym same) in
    omega (arith, off1, off2)

differ_below : (xs : List ℕ) → IsDistinct eqb xs → (gs : List (List ℕ)) → AllByRecursion (AllByRecursion (λ k. k < length xs)) gs → AllByRecursion (Differ (at xs)) gs
differ_below xs once [] all = tt
differ_below xs once (g ∷ gs) all =
    (λ h k ch ck e. one_place xs once h k (All-contains (λ j. j < length xs) g h (All-from_recursion _ _ all.0) ch) (All-contains (λ j. j < length xs) g k (All-from_recursion _ _ all.0) ck) e, differ_below xs once gs all.1)

-- the groups of a plan, by the numbers of a plan that has its steps in their order
pub renamed : {A : Type 0} (p q : ℕ → Step A) (s : A → Bool) (gs : List (List ℕ)) → IsDistinct eqb (concat gs) → AreStepsOf p q (concat gs) → DoAs p q (at (concat gs)) s (numbered 0 gs) gs
renamed p q s gs once same =
    let xs : List ℕ = concat gs in
    let z : 0 + length xs ≤ length xs = omega arith in
    subst (DoAs p q (at xs) s (numbered 0 gs)) (read_all xs gs 0 refl)
    (do_as p q (at xs) s (numbered 0 gs) (all_below (λ k. q k ≡ p (at xs k)) gs 0 (length xs) z same) (differ_below xs once (numbered 0 gs) (all_below (λ k. k < length xs) gs 0 (length xs) z (λ k l. l))))

pub accepted_renamed : {A : Type 0} (p q : ℕ → Step A) (goal : (A → Bool) → Bool) (s : A → Bool) (gs : List (List ℕ)) (end : A → Bool) (cost : ℕ) → IsDistinct eqb (concat gs) → AreStepsOf p q (concat gs) → IsAcceptedRun p goal s gs end cost → IsAcceptedRun q goal s (numbered 0 gs) end cost
accepted_renamed p q goal s gs end cost once same run =
    let done : DoAs p q (at (concat gs)) s (numbered 0 gs) gs = renamed p q s gs once same in
    record {
      fine = done.fine run.fine;
      end_is = run.end_is ∙ sym done.end;
      goal_holds = run.goal_holds;
      cost_is = run.cost_is ∙ sym done.cost;
    }

-- steps alone
pub numbered_singles : (i : ℕ) (order : List ℕ) → numbered i (singles order) ≡ singles (numbers_to i (length order))
numbered_singles i [] = refl
numbered_singles i (k ∷ ks) = ap (λ l. (i ∷ []) ∷ l) (numbered_singles (i + 1) ks)
