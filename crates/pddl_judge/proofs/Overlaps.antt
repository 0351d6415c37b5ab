-- What a step and others touch.
use Rattle.std.proofs.Common.{zero-add, true≢false, is_some, ◌≡◌, ℕ, zero, suc, ◌+◌, ◌-◌, ◌≤◌, ◌<◌, Bool, false, ◌&&◌, ◌||◌, List, [], ◌∷◌, refl, sym, ap, ◌∙◌, arith, length, get_or, drop, Option, None, Some, subst, add-one, drop-cons}
use Rattle.std.specs.Prelude.{MatchOption, All}
use Rattle.std.specs.List.{AllByRecursion}
use Rattle.pddl_happenings.proofs.Serialisations.{found}
use Rattle.pddl_happenings.specs.Accepted.{IsReady, NoClash}
use Rattle.pddl_happenings.specs.Failures.{FirstAt, FirstPairAt, IsFirstClash}
use Rattle.pddl_happenings.specs.Steps.{Step, clash}
use Rattle.pddl_judge.specs.Touches.{AllPairwise, Apart, FirstRowAt, Touch, join_of, overlap, touch_of, touches_of}
use Rattle.pddl_judge.specs.Verdicts.{IsLeast}
use Rattle.pddl_state.specs.Atoms.{AtomValue}

pub default : {X : Type 0} (xs : List X) (i : ℕ) (d e : X) → i < length xs → get_or xs i d ≡ get_or xs i e
default [] i d e h = absurd (omega (arith, h))
default (x ∷ xs) zero d e h = refl
default (x ∷ xs) (suc i) d e h = default xs i d e (omega (arith, h))

-- what is left of a list, one element further
module _ {X : Type 0} (xs : List X) (i : ℕ) (d : X) (at : d ≡ get_or xs i d) (h : i < length xs) where
  from_next : drop i xs ≡ get_or xs i d ∷ drop (i + 1) xs
  from_next = rw (add-one, drop-cons xs i d)

  pub next : drop i xs ≡ d ∷ drop (i + 1) xs
  next = from_next ∙ ap (λ y. y ∷ drop (i + 1) xs) (sym at)

  pub all_more : (P : X → Type 0) → {R : Type 0} → (AllByRecursion P (drop i xs) → R) → P d → AllByRecursion P (drop (i + 1) xs) → R
  all_more P so_far one rest = so_far (subst (AllByRecursion P) (sym next) (one, rest))

  pub first_more : (P Q : X → Type 0) → ((k : ℕ) → FirstAt P Q (drop i xs) k → FirstAt P Q xs (i + k)) → P d → (k : ℕ) → FirstAt P Q (drop (i + 1) xs) k → FirstAt P Q xs ((i + 1) + k)
  first_more P Q so_far one k rest =
      let e : i + suc k ≡ (i + 1) + k = omega arith in
      subst (FirstAt P Q xs) e (so_far (suc k) (subst (λ l. FirstAt P Q l (suc k)) (sym next) (one, rest)))

  pub first_here : (P Q : X → Type 0) → ((k : ℕ) → FirstAt P Q (drop i xs) k → FirstAt P Q xs (i + k)) → Q d → FirstAt P Q xs i
  first_here P Q so_far one =
      let e : i + 0 ≡ i = omega arith in
      subst (FirstAt P Q xs) e (so_far 0 (subst (λ l. FirstAt P Q l 0) (sym next) one))

-- a row that fails, and the first pair in it
row_suc : {X : Type 0} (P : X → X → Type 0) (xs : List X) (i : ℕ) (d : X) → d ≡ get_or xs i d → FirstRowAt P xs i → AllByRecursion (P d) (drop (suc i) xs) → ⊥
row_suc P [] i d at row all = row
row_suc P (x ∷ xs) zero d at row all = row (subst (λ y. AllByRecursion (P y) xs) at all)
row_suc P (x ∷ xs) (suc i) d at row all = row_suc P xs i d at row.1 all

pub row_fails : {X : Type 0} (P : X → X → Type 0) (xs : List X) (i : ℕ) (d : X) → d ≡ get_or xs i d → FirstRowAt P xs i → AllByRecursion (P d) (drop (i + 1) xs) → ⊥
row_fails P xs i d at row all =
    let e : i + 1 ≡ suc i = omega arith in
    row_suc P xs i d at row (subst (λ n. AllByRecursion (P d) (drop n xs)) e all)

pair_suc : {X : Type 0} (P Q : X → X → Type 0) (xs : List X) (i j : ℕ) (d : X) → d ≡ get_or xs i d → FirstRowAt P xs i → FirstAt (P d) (Q d) (drop (suc i) xs) j → FirstPairAt P Q xs i (suc (i + j))
pair_suc P Q [] i j d at row first = row
pair_suc P Q (x ∷ xs) zero j d at row first =
    let e : j ≡ 0 + j = omega arith in
    subst (FirstAt (P x) (Q x) xs) e (subst (λ y. FirstAt (P y) (Q y) xs j) at first)
pair_suc P Q (x ∷ xs) (suc i) j d at row first =
    let e : suc (i + j) ≡ suc i + j = omega arith in
    (row.0, subst (FirstPairAt P Q xs i) e (pair_suc P Q xs i j d at row.1 first))

pub pair_in_row : {X : Type 0} (P Q : X → X → Type 0) (xs : List X) (i j : ℕ) (d : X) → d ≡ get_or xs i d → FirstRowAt P xs i → FirstAt (P d) (Q d) (drop (i + 1) xs) j → FirstPairAt P Q xs i ((i + 1) + j)
pair_in_row P Q xs i j d at row first =
    let e : i + 1 ≡ suc i = omega arith in
    let f : suc (i + j) ≡ (i + 1) + j = omega arith in
    subst (FirstPairAt P Q xs i) f (pair_suc P Q xs i j d at row (subst (λ n. FirstAt (P d) (Q d) (drop n xs) j) e first))

-- what is known of an option, by its case
pub at_none : {X : Type 0} (A : Type 0) (B : X → Type 0) (o : Option X) → o ≡ None → MatchOption o A B → A
at_none A B None e known = known
at_none A B (Some x) e known = absurd (true≢false (ap is_some e))

pub at_some : {X : Type 0} (A : Type 0) (B : X → Type 0) (o : Option X) (x : X) → o ≡ Some x → MatchOption o A B → B x
at_some A B o x e known = subst (λ p. MatchOption p A B) e known

-- the test against the unions is the test against each
six : (xr xa xd yr ya yd : Bool) → (((xa || xd) && yr) || (((ya || yd) && xr) || ((xa && yd) || (ya && xd)))) ≡ false → ((xa && yr) ≡ false) × ((xd && yr) ≡ false) × ((ya && xr) ≡ false) × ((yd && xr) ≡ false) × ((xa && yd) ≡ false) × ((ya && xd) ≡ false)
six xr xa xd yr ya yd h = (grind arith, grind arith, grind arith, grind arith, grind arith, grind arith)

from_six : (xr xa xd yr ya yd : Bool) → (xa && yr) ≡ false → (xd && yr) ≡ false → (ya && xr) ≡ false → (yd && xr) ≡ false → (xa && yd) ≡ false → (ya && xd) ≡ false → (((xa || xd) && yr) || (((ya || yd) && xr) || ((xa && yd) || (ya && xd)))) ≡ false
from_six xr xa xd yr ya yd a b c d e f = grind arith

and_one : (x s t : Bool) → (x && (s || t)) ≡ false → ((x && s) ≡ false) × ((x && t) ≡ false)
and_one x s t h = (grind arith, grind arith)

one_and : (x s t : Bool) → ((s || t) && x) ≡ false → ((s && x) ≡ false) × ((t && x) ≡ false)
one_and x s t h = (grind arith, grind arith)

and_both : (x s t : Bool) → (x && s) ≡ false → (x && t) ≡ false → (x && (s || t)) ≡ false
and_both x s t h k = grind arith

both_and : (x s t : Bool) → (s && x) ≡ false → (t && x) ≡ false → ((s || t) && x) ≡ false
both_and x s t h k = grind arith

-- x apart from two is x apart from their join, at one atom
module _ (xr xa xd sr sa sd tr ta td : Bool) where
  ov : Bool → Bool → Bool → Bool
  ov yr ya yd = ((xa || xd) && yr) || (((ya || yd) && xr) || ((xa && yd) || (ya && xd)))

  pub parted : (((xa || xd) && (sr || tr)) || ((((sa || ta) || (sd || td)) && xr) || ((xa && (sd || td)) || ((sa || ta) && xd)))) ≡ false → ((((xa || xd) && sr) || (((sa || sd) && xr) || ((xa && sd) || (sa && xd)))) ≡ false) × ((((xa || xd) && tr) || (((ta || td) && xr) || ((xa && td) || (ta && xd)))) ≡ false)
  parted h =
      let p = six xr xa xd (sr || tr) (sa || ta) (sd || td) h in
      let a = and_one xa sr tr p.0 in
      let b = and_one xd sr tr p.1 in
      let c = one_and xr sa ta p.2 in
      let d = one_and xr sd td p.3 in
      let e = and_one xa sd td p.4 in
      let f = one_and xd sa ta p.5 in
      (from_six xr xa xd sr sa sd a.0 b.0 c.0 d.0 e.0 f.0, from_six xr xa xd tr ta td a.1 b.1 c.1 d.1 e.1 f.1)

  pub merged : (((xa || xd) && sr) || (((sa || sd) && xr) || ((xa && sd) || (sa && xd)))) ≡ false → (((xa || xd) && tr) || (((ta || td) && xr) || ((xa && td) || (ta && xd)))) ≡ false → (((xa || xd) && (sr || tr)) || ((((sa || ta) || (sd || td)) && xr) || ((xa && (sd || td)) || ((sa || ta) && xd)))) ≡ false
  merged h k =
      let p = six xr xa xd sr sa sd h in
      let q = six xr xa xd tr ta td k in
      from_six xr xa xd (sr || tr) (sa || ta) (sd || td) (and_both xa sr tr p.0 q.0) (and_both xd sr tr p.1 q.1) (both_and xr sa ta p.2 q.2) (both_and xr sd td p.3 q.3) (and_both xa sd td p.4 q.4) (both_and xd sa ta p.5 q.5)

no_overlap_none : (xr xa xd : Bool) → (((xa || xd) && false) || (((false || false) && xr) || ((xa && false) || (false && xd)))) ≡ false
no_overlap_none xr xa xd = grind arith

module _ {A : Type 0} (p : ℕ → Step A) (s : A → Bool) (x : Touch A) where
  pub apart_each : (g : List ℕ) → Apart x (touches_of p s g) → AllByRecursion (λ k. Apart x (touch_of (p k) s)) g
  apart_each [] apart = tt
  apart_each (k ∷ g) apart = (λ a. (both a).0, apart_each g (λ a. (both a).1))
    where
      both : (a : A) → (overlap x (touch_of (p k) s) a ≡ false) × (overlap x (touches_of p s g) a ≡ false)
      both a = parted (x.reads a) (x.adds a) (x.dels a) ((p k).reads a) ((p k).adds s a) ((p k).dels s a) ((touches_of p s g).reads a) ((touches_of p s g).adds a) ((touches_of p s g).dels a) (apart a)

  pub apart_joined : (g : List ℕ) → AllByRecursion (λ k. Apart x (touch_of (p k) s)) g → Apart x (touches_of p s g)
  apart_joined [] all = λ a. no_overlap_none (x.reads a) (x.adds a) (x.dels a)
  apart_joined (k ∷ g) all = λ a.
      merged (x.reads a) (x.adds a) (x.dels a) ((p k).reads a) ((p k).adds s a) ((p k).dels s a) ((touches_of p s g).reads a) ((touches_of p s g).adds a) ((touches_of p s g).dels a) (all.0 a) (apart_joined g all.1 a)

or-swap : (a b : Bool) → (a || b) ≡ (b || a)
or-swap a b = grind arith

join_swap : {A : Type 0} (x y : Touch A) → join_of x y ≡ join_of y x
join_swap x y = λ i. record { reads = λ a. or-swap (x.reads a) (y.reads a) i; adds = λ a. or-swap (x.adds a) (y.adds a) i; dels = λ a. or-swap (x.dels a) (y.dels a) i }

-- from the last step to the first: one step nearer to the first
module _ {A : Type 0} (p : ℕ → Step A) (s : A → Bool) (xs : List ℕ) (i : ℕ) (some : 0 < i) (within : i ≤ length xs) where
  abbrev here : ℕ
  here = get_or xs (i - 1) 0

  pub next_down : drop (i - 1) xs ≡ here ∷ drop i xs
  next_down =
      let h : i - 1 < length xs = omega (arith, some, within) in
      let e : (i - 1) + 1 ≡ i = omega (arith, some) in
      next xs (i - 1) here (default xs (i - 1) 0 here h) h ∙ ap (λ n. here ∷ drop n xs) e

  pub touches_down : (all new : Touch A) → all ≡ touches_of p s (drop i xs) → new ≡ join_of all (touch_of (p here) s) → new ≡ touches_of p s (drop (i - 1) xs)
  touches_down all new so_far is = is ∙ (join_swap all (touch_of (p here) s) ∙ (ap (join_of (touch_of (p here) s)) so_far ∙ ap (touches_of p s) (sym next_down)))

  abbrev Row : ℕ → Option ℕ → Type 0
  Row n row = MatchOption row (AllPairwise (NoClash p s) (drop n xs)) (λ r. (x : ℕ) × (r ≡ n + x) × FirstRowAt (NoClash p s) (drop n xs) x)

  pub row_kept : (row : Option ℕ) → Row i row → AllByRecursion (NoClash p s here) (drop i xs) → Row (i - 1) row
  row_kept None so_far apart = subst (AllPairwise (NoClash p s)) (sym next_down) (apart, so_far)
  row_kept (Some r) so_far apart = (suc so_far.0, omega (arith, some, so_far.1), subst (λ l. FirstRowAt (NoClash p s) l (suc so_far.0)) (sym next_down) (apart, so_far.2))

  pub row_found : (AllByRecursion (NoClash p s here) (drop i xs) → ⊥) → Row (i - 1) (Some (i - 1))
  row_found meets = (0, omega arith, subst (λ l. FirstRowAt (NoClash p s) l 0) (sym next_down) meets)

  module _ (all : Touch A) (so_far : all ≡ touches_of p s (drop i xs)) where
    pub apart_here : Apart (touch_of (p here) s) all → AllByRecursion (NoClash p s here) (drop i xs)
    apart_here apart = apart_each p s (touch_of (p here) s) (drop i xs) (subst (Apart (touch_of (p here) s)) so_far apart)

    pub here_apart : AllByRecursion (NoClash p s here) (drop i xs) → Apart (touch_of (p here) s) all
    here_apart each = subst (Apart (touch_of (p here) s)) (sym so_far) (apart_joined p s (touch_of (p here) s) (drop i xs) each)

pub row_from_start : {X : Type 0} (P : X → X → Type 0) (xs : List X) (row : Option ℕ) (n : ℕ) → n ≤ 0 → MatchOption row (AllPairwise P (drop n xs)) (λ r. (x : ℕ) × (r ≡ n + x) × FirstRowAt P (drop n xs) x) → MatchOption row (AllPairwise P xs) (λ r. FirstRowAt P xs r)
row_from_start P xs None zero h is = is
row_from_start P xs (Some r) zero h is =
    let e : is.0 ≡ r = omega (arith, is.1) in
    subst (FirstRowAt P xs) e is.2
row_from_start P xs row (suc n) h is = absurd (omega (arith, h))

-- the first pair of a happening, from its row and its place in the row
pub clash_from_row : (p : ℕ → Step AtomValue) (s : AtomValue → Bool) (g : List ℕ) (i j first second : ℕ) (a : AtomValue) → All (IsReady p s) g → i < length g → get_or g i 0 ≡ first → get_or (drop (i + 1) g) j 0 ≡ second → FirstRowAt (NoClash p s) g i →
    FirstAt (NoClash p s first) (λ k. IsLeast a (clash (p first) (p k) s)) (drop (i + 1) g) j → IsFirstClash p (IsLeast a) s g first second
clash_from_row p s g i j first second a ready within is_first is_second row found =
    let at : first ≡ get_or g i first = sym is_first ∙ default g i 0 first within in
    record {
      ready = ready;
      first_place = i;
      second_place = (i + 1) + j;
      first_is = is_first;
      second_is = get_or-drop g (i + 1) j ∙ is_second;
      pair = pair_in_row (NoClash p s) (λ h k. IsLeast a (clash (p h) (p k) s)) g i j first at row found;
    }
  where
    get_or-drop : (xs : List ℕ) (n k : ℕ) → get_or xs (n + k) 0 ≡ get_or (drop n xs) k 0
    get_or-drop [] zero k = ap (λ m. get_or [] m 0) (zero-add k)
    get_or-drop (x ∷ xs) zero k = ap (λ m. get_or (x ∷ xs) m 0) (zero-add k)
    get_or-drop [] (suc n) k = refl
    get_or-drop (x ∷ xs) (suc n) k = let e : suc n + k ≡ suc (n + k) = omega arith in ap (λ m. get_or (x ∷ xs) m 0) e ∙ get_or-drop xs n k

-- what a search in a row answers, of the steps behind a step
module _ (p : ℕ → Step AtomValue) (s t : AtomValue → Bool) (x : Touch AtomValue) (first : ℕ) (rest behind : List ℕ) (x_is : x ≡ touch_of (p first) s) (t_is : t ≡ s) (rest_is : rest ≡ behind) where
  abbrev ApartFrom : Touch AtomValue → (AtomValue → Bool) → ℕ → Type 0
  ApartFrom y u k = Apart y (touch_of (p k) u)

  abbrev Meets : AtomValue → Touch AtomValue → (AtomValue → Bool) → ℕ → Type 0
  Meets a y u k = IsLeast a (overlap y (touch_of (p k) u))

  abbrev Answer : Option (ℕ × AtomValue) → Type 0
  Answer o = MatchOption o (AllByRecursion (ApartFrom x t) rest) (λ f. FirstAt (ApartFrom x t) (Meets f.1 x t) rest f.0)

  pub none_in_row : (o : Option (ℕ × AtomValue)) → o ≡ None → Answer o → AllByRecursion (NoClash p s first) behind
  none_in_row o is answer =
      subst (AllByRecursion (NoClash p s first)) rest_is (subst (λ u. AllByRecursion (ApartFrom (touch_of (p first) s) u) rest) t_is (subst (λ y. AllByRecursion (ApartFrom y t) rest) x_is
      (at_none (AllByRecursion (ApartFrom x t) rest) (λ f. FirstAt (ApartFrom x t) (Meets f.1 x t) rest f.0) o is answer)))

  pub found_in_row : (o : Option (ℕ × AtomValue)) (j : ℕ) (a : AtomValue) → o ≡ Some (j, a) → Answer o → FirstAt (NoClash p s first) (λ k. IsLeast a (clash (p first) (p k) s)) behind j
  found_in_row o j a is answer =
      subst (λ l. FirstAt (NoClash p s first) (λ k. IsLeast a (clash (p first) (p k) s)) l j) rest_is (subst (λ u. FirstAt (ApartFrom (touch_of (p first) s) u) (Meets a (touch_of (p first) s) u) rest j) t_is (subst (λ y. FirstAt (ApartFrom y t) (Meets a y t) rest j) x_is
      (at_some (AllByRecursion (ApartFrom x t) rest) (λ f. FirstAt (ApartFrom x t) (Meets f.1 x t) rest f.0) o (j, a) is answer)))
