-- The frame law's consequences for groups of steps that do not interfere.
use Rattle.std.proofs.Common.{subst, ◌≡◌, ◌≢◌, ℕ, ◌+◌, Bool, true, false, not, ◌&&◌, ◌||◌, List, [], ◌∷◌, ◌++◌, refl, sym, ap, ◌∙◌, arith, ⊎_elim, eqb, eq-eqb, zero-add}
use Rattle.std.specs.Prelude.{Contains, IsPermutation}
use Rattle.std.specs.List.{AllByRecursion, list_any, concat, IsDistinct}
use Rattle.std.proofs.lemmas.List.Folds.{list_any-append}
use Rattle.std.proofs.lemmas.Map.Keys.{IsDistinct-head, IsDistinct-tail, IsDistinct-IsPermutation}
use Rattle.std.specs.Cmp.{nat_eq_equiv}
use Rattle.std.proofs.lemmas.List.Sorted.{Contains-permutation, IsPermutation-sym, list_any-IsPermutation, sum_by-IsPermutation}
use Rattle.std.proofs.lemmas.List.Sums.{sum_by-append}
use Rattle.std.proofs.lemmas.List.Elements.{All-contains, All-from_recursion, Contains-push_cases, Contains-append_left, Contains-append_right, Contains-append_cases}
use Rattle.pddl_happenings.proofs.Forms.{DoTheSame, EachOnce, IsSerialisation, IsSplit, SerialisationsConverge, SplitsConverge}
use Rattle.pddl_happenings.proofs.Members.{All-from_contains, Contains-cons, Contains-head, any_agree, none_any, sum_agree}
use Rattle.pddl_happenings.specs.Accepted.{AllFine, IsFine, IsReady, after, after_all, cost_of, cost_of_all}
use Rattle.pddl_happenings.specs.Happenings.{singles}
use Rattle.pddl_happenings.specs.Serialisations.{RunsSerially}
use Rattle.pddl_happenings.specs.Steps.{Agree, IsFramed, Step, changes, clash}

-- first one group and then the other is both at once, where no atom is added by the first and deleted by the second
merge : (x d1 a1 d2 a2 : Bool) → (a1 && d2) ≡ false → ((((x && not d1) || a1) && not d2) || a2) ≡ ((x && not (d1 || d2)) || (a1 || a2))
merge x d1 a1 d2 a2 h = Prim.grind arith

-- a pointwise equation between sets is one between the sets
ext : {A : Type 0} (s t : A → Bool) → ((a : A) → s a ≡ t a) → s ≡ t
ext s t h = λ i a. h a i

-- what is known of every pair of a step of the first group and one of the second
Apart : {A : Type 0} → (ℕ → Step A) → (A → Bool) → List ℕ → List ℕ → Type 0
Apart {A} p s xs ys = (h k : ℕ) → Contains xs h → Contains ys k → (a : A) → clash (p h) (p k) s a ≡ false

kept : (x d a : Bool) → d ≡ false → a ≡ false → ((x && not d) || a) ≡ x
kept x d a e f = grind arith

-- from no clash at an atom: what each part of it says
no_change : (a d r b c : Bool) → (((a || d) && r) || (b || c)) ≡ false → r ≡ true → (a ≡ false) × (d ≡ false)
no_change true d true b c h e = cc
no_change true d false b c h e = cc
no_change false true true b c h e = cc
no_change false true false b c h e = cc
no_change false false r b c h e = (refl, refl)

no_cross : (u v w a d : Bool) → (u || (v || ((a && d) || w))) ≡ false → (a && d) ≡ false
no_cross u v w a d h = grind arith

or_and : (u v w : Bool) → (u && w) ≡ false → (v && w) ≡ false → ((u || v) && w) ≡ false
or_and u v w g h = grind arith

none_right : (b : Bool) (r : ℕ → Bool) (ys : List ℕ) → ((k : ℕ) → Contains ys k → (b && r k) ≡ false) → (b && list_any r ys) ≡ false
none_right true r ys none = none_any r ys none
none_right false r ys none = refl

none_both : (q r : ℕ → Bool) (xs ys : List ℕ) → ((h k : ℕ) → Contains xs h → Contains ys k → (q h && r k) ≡ false) → (list_any q xs && list_any r ys) ≡ false
none_both q r [] ys none = refl
none_both q r (x ∷ xs) ys none =
    let head : (q x && list_any r ys) ≡ false = none_right (q x) r ys (λ k c. none x k (Contains-head x xs) c) in
    let tail : (list_any q xs && list_any r ys) ≡ false = none_both q r xs ys (λ h k c e. none h k (Contains-cons x xs h c) e) in
    or_and (q x) (list_any q xs) (list_any r ys) head tail

unchanged : {A : Type 0} (h k : Step A) (s : A → Bool) (a : A) → clash h k s a ≡ false → k.reads a ≡ true → (h.adds s a ≡ false) × (h.dels s a ≡ false)
unchanged h k s a e r =
    no_change (h.adds s a) (h.dels s a) (k.reads a) (changes k s a && h.reads a) ((h.adds s a && k.dels s a) || (k.adds s a && h.dels s a)) e r

uncrossed : {A : Type 0} (h k : Step A) (s : A → Bool) (a : A) → clash h k s a ≡ false → (h.adds s a && k.dels s a) ≡ false
uncrossed h k s a e = no_cross (changes h s a && k.reads a) (changes k s a && h.reads a) (k.adds s a && h.dels s a) (h.adds s a) (k.dels s a) e

module _ {A : Type 0} (p : ℕ → Step A) (s : A → Bool) (xs ys : List ℕ) (apart : Apart p s xs ys) where
  -- the first group leaves what each step of the second reads
  agree : (k : ℕ) → Contains ys k → Agree (p k).reads s (after p s xs)
  unfolding Apart
  agree k c a r =
      let d0 : list_any (λ h. (p h).dels s a) xs ≡ false = none_any _ xs (λ h e. (unchanged (p h) (p k) s a (apart h k e c a) r).1) in
      let a0 : list_any (λ h. (p h).adds s a) xs ≡ false = none_any _ xs (λ h e. (unchanged (p h) (p k) s a (apart h k e c a) r).0) in
      sym (kept (s a) _ _ d0 a0)

  -- no atom is added by the first group and deleted by the second
  cross : (a : A) → (list_any (λ h. (p h).adds s a) xs && list_any (λ k. (p k).dels s a) ys) ≡ false
  unfolding Apart
  cross a = none_both _ _ xs ys (λ h k e c. uncrossed (p h) (p k) s a (apart h k e c a))

module _ {A : Type 0} (p : ℕ → Step A) (framed : (k : ℕ) → IsFramed (p k)) (s : A → Bool) (xs ys : List ℕ) (apart : Apart p s xs ys) where
  -- one group and then the other is both at once
  after_append : after p (after p s xs) ys ≡ after p s (xs ++ ys)
  after_append = ext _ _ (λ a.
      let adds : list_any (λ k. (p k).adds s a) ys ≡ list_any (λ k. (p k).adds (after p s xs) a) ys =
      any_agree _ _ ys (λ k c. (framed k).adds _ _ (agree p s xs ys apart k c) a) in
      let dels : list_any (λ k. (p k).dels s a) ys ≡ list_any (λ k. (p k).dels (after p s xs) a) ys =
      any_agree _ _ ys (λ k c. (framed k).dels _ _ (agree p s xs ys apart k c) a) in
      rw (← adds, ← dels, list_any-append, list_any-append) (merge (s a) _ _ _ _ (cross p s xs ys apart a)))

-- ---- numbers that are listed once
pub apart_parts : (xs ys : List ℕ) → IsDistinct eqb (xs ++ ys) → (h k : ℕ) → Contains xs h → Contains ys k → h ≢ k
apart_parts [] ys one h k c e = absurd (omega (arith, c.1))
apart_parts (x ∷ xs) ys one h k c e =
    ⊎_elim
    (λ here. let is : x ≡ h = ⊎_elim (λ none. absurd (omega (arith, none.1))) (λ q. q) (Contains-push_cases [] x h here) in
    let off : eqb x k ≡ false = All-contains (λ y. eqb x y ≡ false) (xs ++ ys) k (All-from_recursion _ _ (IsDistinct-head eqb x (xs ++ ys) one)) (Contains-append_right xs ys k e) in
    λ same. let on : eqb x k ≡ true = eq-eqb x k (is ∙ same) in (cc))
    (λ there. apart_parts xs ys (IsDistinct-tail eqb x (xs ++ ys) one) h k there e)
    (Contains-append_cases (x ∷ []) xs h c)

pub distinct_rest : (xs ys : List ℕ) → IsDistinct eqb (xs ++ ys) → IsDistinct eqb ys
distinct_rest [] ys one = one
distinct_rest (x ∷ xs) ys one = distinct_rest xs ys (IsDistinct-tail eqb x (xs ++ ys) one)

pub front_of : {X : Type 0} (P : X → Type 0) (xs ys : List X) → AllByRecursion P (xs ++ ys) → AllByRecursion P xs
front_of P [] ys all = tt
front_of P (x ∷ xs) ys all = (all.0, front_of P xs ys all.1)

pub distinct_first : (xs ys : List ℕ) → IsDistinct eqb (xs ++ ys) → IsDistinct eqb xs
unfolding IsDistinct
distinct_first [] ys once = tt
distinct_first (x ∷ xs) ys once = (front_of (λ y. eqb x y ≡ false) xs ys once.0, distinct_first xs ys once.1)

module _ {A : Type 0} (p : ℕ → Step A) (framed : (k : ℕ) → IsFramed (p k)) (s : A → Bool) (xs ys : List ℕ) (apart : Apart p s xs ys) where
  cost_append : cost_of p s xs + cost_of p (after p s xs) ys ≡ cost_of p s (xs ++ ys)
  cost_append =
      let same : cost_of p s ys ≡ cost_of p (after p s xs) ys = sum_agree _ _ ys (λ k c. (framed k).cost _ _ (agree p s xs ys apart k c)) in
      rw (← same) (sym (sum_by-append (λ h. (p h).cost s) xs ys))

  clash_same : (h k : ℕ) → Contains ys h → Contains ys k → (a : A) → clash (p h) (p k) s a ≡ clash (p h) (p k) (after p s xs) a
  clash_same h k c d a =
      let ah : (p h).adds s a ≡ (p h).adds (after p s xs) a = (framed h).adds _ _ (agree p s xs ys apart h c) a in
      let dh : (p h).dels s a ≡ (p h).dels (after p s xs) a = (framed h).dels _ _ (agree p s xs ys apart h c) a in
      let ak : (p k).adds s a ≡ (p k).adds (after p s xs) a = (framed k).adds _ _ (agree p s xs ys apart k d) a in
      let dk : (p k).dels s a ≡ (p k).dels (after p s xs) a = (framed k).dels _ _ (agree p s xs ys apart k d) a in
      cc

  fine_after : IsFine p s ys → IsFine p (after p s xs) ys
  fine_after fine = record {
    ready = All-from_contains (IsReady p (after p s xs)) ys (λ k c. sym ((framed k).ready _ _ (agree p s xs ys apart k c)) ∙ All-contains (IsReady p s) ys k fine.ready c);
    apart = λ h k c d ne a. sym (clash_same h k c d a) ∙ fine.apart h k c d ne a;
  }

-- a fine group of numbers that are listed once, parted in two
fine_apart : {A : Type 0} (p : ℕ → Step A) (s : A → Bool) (xs ys : List ℕ) → IsDistinct eqb (xs ++ ys) → IsFine p s (xs ++ ys) → Apart p s xs ys
unfolding Apart
fine_apart p s xs ys one fine h k c e a =
    fine.apart h k (Contains-append_left xs ys h c) (Contains-append_right xs ys k e) (apart_parts xs ys one h k c e) a

-- a group of which each step is one of a fine group is fine
fine_part : {A : Type 0} (p : ℕ → Step A) (s : A → Bool) (xs ys : List ℕ) → ((h : ℕ) → Contains xs h → Contains ys h) → IsFine p s ys → IsFine p s xs
fine_part p s xs ys sub fine = record {
  ready = All-from_contains (IsReady p s) xs (λ k c. All-contains (IsReady p s) ys k fine.ready (sub k c));
  apart = λ h k c d ne a. fine.apart h k (sub h c) (sub k d) ne a;
}

-- groups one after another are all of them at once
pub record Same {A : Type 0} (p : ℕ → Step A) (s : A → Bool) (gs : List (List ℕ)) (g : List ℕ) : Type 0 where
  pub fine : AllFine p s gs
  pub end : after_all p s gs ≡ after p s g
  pub cost : cost_of_all p s gs ≡ cost_of p s g

after_nil : {A : Type 0} (p : ℕ → Step A) (s : A → Bool) → after p s [] ≡ s
after_nil p s = ext _ _ (λ a. kept (s a) false false refl refl)

module _ {A : Type 0} (p : ℕ → Step A) (framed : (k : ℕ) → IsFramed (p k)) where
  -- a fine group's steps, done in groups one after another, are done as at once
  groups_same : (gs : List (List ℕ)) (s : A → Bool) → IsDistinct eqb (concat gs) → IsFine p s (concat gs) → Same p s gs (concat gs)
  groups_same [] s one fine = record { fine = tt; end = sym (after_nil p s); cost = refl }
  groups_same (g ∷ gs) s one fine =
      let apart : Apart p s g (concat gs) = fine_apart p s g (concat gs) one fine in
      let here : IsFine p s g = fine_part p s g (g ++ concat gs) (λ h c. Contains-append_left g (concat gs) h c) fine in
      let there : IsFine p s (concat gs) = fine_part p s (concat gs) (g ++ concat gs) (λ h c. Contains-append_right g (concat gs) h c) fine in
      let rest : Same p (after p s g) gs (concat gs) = groups_same gs (after p s g) (distinct_rest g (concat gs) one) (fine_after p framed s g (concat gs) apart there) in
      record {
        fine = (here, rest.fine);
        end = rest.end ∙ after_append p framed s g (concat gs) apart;
        cost = ap (λ n. cost_of p s g + n) rest.cost ∙ cost_append p framed s g (concat gs) apart;
      }

  -- the order within a group is free
  fine_permuted : (s : A → Bool) (xs ys : List ℕ) → IsPermutation xs ys → IsFine p s xs → IsFine p s ys
  fine_permuted s xs ys m fine = fine_part p s ys xs (λ h c. Contains-permutation ys xs h (IsPermutation-sym xs ys m) c) fine

  after_permuted : (s : A → Bool) (xs ys : List ℕ) → IsPermutation xs ys → after p s xs ≡ after p s ys
  after_permuted s xs ys m = ext _ _ (λ a.
      let dels : list_any (λ h. (p h).dels s a) xs ≡ list_any (λ h. (p h).dels s a) ys = list_any-IsPermutation _ xs ys m in
      let adds : list_any (λ h. (p h).adds s a) xs ≡ list_any (λ h. (p h).adds s a) ys = list_any-IsPermutation _ xs ys m in
      cc)

  cost_permuted : (s : A → Bool) (xs ys : List ℕ) → IsPermutation xs ys → cost_of p s xs ≡ cost_of p s ys
  cost_permuted s xs ys m = sym (sum_by-IsPermutation (λ h. (p h).cost s) xs ys m)

  -- groups after groups
  all_fine_append : (xs ys : List (List ℕ)) (s : A → Bool) → AllFine p s xs → AllFine p (after_all p s xs) ys → AllFine p s (xs ++ ys)
  all_fine_append [] ys s one two = two
  all_fine_append (g ∷ xs) ys s one two = (one.0, all_fine_append xs ys (after p s g) one.1 two)

  after_all_append : (xs ys : List (List ℕ)) (s : A → Bool) → after_all p s (xs ++ ys) ≡ after_all p (after_all p s xs) ys
  after_all_append [] ys s = refl
  after_all_append (g ∷ xs) ys s = after_all_append xs ys (after p s g)

  cost_of_all_append : (xs ys : List (List ℕ)) (s : A → Bool) → cost_of_all p s (xs ++ ys) ≡ cost_of_all p s xs + cost_of_all p (after_all p s xs) ys
  cost_of_all_append [] ys s = sym (zero-add _)
  cost_of_all_append (g ∷ xs) ys s = omega (arith, cost_of_all_append xs ys (after p s g))

pub eqb-comm : (x y : ℕ) → eqb x y ≡ eqb y x
eqb-comm x y = nat_eq_equiv.symm x y

pub concat_singles : (ks : List ℕ) → concat (singles ks) ≡ ks
concat_singles [] = refl
concat_singles (k ∷ ks) = ap (λ l. k ∷ l) (concat_singles ks)

singles_append : (xs ys : List ℕ) → singles (xs ++ ys) ≡ singles xs ++ singles ys
singles_append [] ys = refl
singles_append (x ∷ xs) ys = ap (λ l. (x ∷ []) ∷ l) (singles_append xs ys)

-- a serialisation is a split into groups of one
pub split_from_serialisation : (hs : List (List ℕ)) (order : List ℕ) → IsSerialisation hs order → IsSplit hs (singles order)
split_from_serialisation [] order is = ap singles is
split_from_serialisation (h ∷ hs) order (first, rest, is, moved, more) =
    (singles first, singles rest, ap singles is ∙ singles_append first rest, rw concat_singles moved, split_from_serialisation hs rest more)

runs_from_fine : {A : Type 0} (p : ℕ → Step A) (s : A → Bool) (ks : List ℕ) → AllFine p s (singles ks) → RunsSerially p s ks
runs_from_fine p s [] fine = tt
runs_from_fine p s (k ∷ ks) fine =
    (All-contains (IsReady p s) (k ∷ []) k fine.0.ready (Contains-head k []), runs_from_fine p (after p s (k ∷ [])) ks fine.1)

module _ {A : Type 0} (p : ℕ → Step A) (framed : (k : ℕ) → IsFramed (p k)) where
  -- Each split of accepted happenings is accepted, with the same end and cost
  pub splits_converge : (hs : List (List ℕ)) (s : A → Bool) → EachOnce hs → SplitsConverge p s hs
  splits_converge [] s once fine gs is = rw is (record { fine = tt; end = refl; cost = refl })
  splits_converge (h ∷ hs) s once fine gs (first, rest, is, moved, more) =
      let one : IsDistinct eqb (concat first) = IsDistinct-IsPermutation eqb eqb-comm h (concat first) moved once.0 in
      let here : Same p s first (concat first) = groups_same p framed first s one (fine_permuted p framed s h (concat first) moved fine.0) in
      let end : after_all p s first ≡ after p s h = here.end ∙ sym (after_permuted p framed s h (concat first) moved) in
      let cost : cost_of_all p s first ≡ cost_of p s h = here.cost ∙ sym (cost_permuted p framed s h (concat first) moved) in
      let there : DoTheSame p (after_all p s first) hs rest = rw end (splits_converge hs (after p s h) once.1 fine.1 rest more) in
      rw is (record {
        fine = all_fine_append p framed first rest s here.fine there.fine;
        end = after_all_append p framed first rest s ∙ there.end ∙ ap (λ t. after_all p t hs) end;
        cost = cost_of_all_append p framed first rest s ∙ (ap (λ n. cost_of_all p s first + n) there.cost ∙ ap (λ n. n + cost_of_all p (after_all p s first) hs) cost) ∙ ap (λ t. cost_of p s h + cost_of_all p t hs) end;
      })

  -- Each serialisation of accepted happenings runs, to the same end and cost
  pub serialisations_converge : (hs : List (List ℕ)) (s : A → Bool) → EachOnce hs → SerialisationsConverge p s hs
  serialisations_converge hs s once fine order is =
      let same : DoTheSame p s hs (singles order) = splits_converge hs s once fine (singles order) (split_from_serialisation hs order is) in
      record { runs = runs_from_fine p s order same.fine; end = same.end; cost = same.cost }

-- some steps of a group that passes, in any order
module _ {A : Type 0} (p : ℕ → Step A) (framed : (k : ℕ) → IsFramed (p k)) (s : A → Bool) (g done rest : List ℕ) (once : IsDistinct eqb g) (fine : IsFine p s g) (moved : IsPermutation g (done ++ rest)) where
  abbrev each : IsDistinct eqb (done ++ rest)
  each = IsDistinct-IsPermutation eqb eqb-comm g (done ++ rest) moved once

  abbrev all_fine : IsFine p s (done ++ rest)
  all_fine = fine_permuted p framed s g (done ++ rest) moved fine

  pub prefix_state : after_all p s (singles done) ≡ after p s done
  prefix_state =
      let join : concat (singles done) ≡ done = concat_singles done in
      let first : IsFine p s done = fine_part p s done (done ++ rest) (λ h c. Contains-append_left done rest h c) all_fine in
      let same : Same p s (singles done) (concat (singles done)) = groups_same p framed (singles done) s (subst (IsDistinct eqb) (sym join) (distinct_first done rest each)) (subst (IsFine p s) (sym join) first) in
      same.end ∙ ap (after p s) join

  pub prefix_reads : (k : ℕ) → Contains rest k → Agree (p k).reads s (after p s done)
  prefix_reads k c = agree p s done rest (fine_apart p s done rest each all_fine) k c
