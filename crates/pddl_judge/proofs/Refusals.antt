-- What a happening without a clash is, and happenings that are refused.
use Rattle.std.proofs.Common.{◌≡◌, ◌≢◌, ℕ, zero, suc, ◌<◌, Bool, true, false, ◌&&◌, ◌||◌, List, [], ◌∷◌, refl, sym, ap, ◌∙◌, arith, length, get_or, subst, eqb, eq-eqb, true≢false}
use Rattle.std.specs.Prelude.{All}
use Rattle.std.specs.List.{AllByRecursion, IsDistinct}
use Rattle.std.proofs.lemmas.Bool.{ltb-true, lt-ltb}
use Rattle.std.proofs.Math.Dec.{ltb}
use Rattle.std.proofs.lemmas.List.Elements.{Contains-get_or, All-head, All-tail}
use Rattle.std.proofs.lemmas.Map.Keys.{IsDistinct-head, IsDistinct-tail}
use Rattle.pddl_happenings.proofs.Forms.{EachOnce}
use Rattle.pddl_happenings.proofs.ListedOnce.{is_distinct}
use Rattle.pddl_happenings.proofs.Serialisations.{each_once}
use Rattle.pddl_happenings.specs.Accepted.{AllFine, IsFine, IsReady, NoClash, NoneInterfere, NotAccepted, after, after_all}
use Rattle.pddl_happenings.specs.Failures.{AtHappening, FirstAt, FirstPairAt, IsFirstClash, IsFirstUnready}
use Rattle.pddl_happenings.specs.Happenings.{HaveEachOnce}
use Rattle.pddl_happenings.specs.Steps.{Step, clash}
use Rattle.pddl_judge.proofs.Overlaps.{default}
use Rattle.pddl_judge.specs.Touches.{AllPairwise}
use Rattle.pddl_judge.specs.Stages.{IsRefusedBy}
use Rattle.pddl_judge.specs.Verdicts.{IsLeast, IfGoal, IfInterference, IfPrecondition}
use Rattle.pddl_judge.specs.declared.refusal.Refusal.{Refusal}
use Rattle.pddl_judge.specs.declared.refusal.Refusal.TheVariants.{Precondition, Interference, Goal}
use Rattle.pddl_state.specs.Atoms.{AtomValue}

first_below : {X : Type 0} (P Q : X → Type 0) (xs : List X) (k : ℕ) → FirstAt P Q xs k → k < length xs
first_below P Q [] k f = absurd f
first_below P Q (x ∷ xs) zero f = omega arith
first_below P Q (x ∷ xs) (suc k) f = omega (arith, first_below P Q xs k f.1)

pub pair_within : {X : Type 0} (P Q : X → X → Type 0) (xs : List X) (i j : ℕ) → FirstPairAt P Q xs i j → (i < j) × (j < length xs)
pair_within P Q [] i j h = absurd h
pair_within P Q (x ∷ xs) i zero h = absurd h
pair_within P Q (x ∷ xs) zero (suc j) h = (omega arith, omega (arith, first_below (P x) (Q x) xs j h))
pair_within P Q (x ∷ xs) (suc i) (suc j) h = let w = pair_within P Q xs i j h.1 in (omega (arith, w.0), omega (arith, w.1))

all_at : {X : Type 0} (P : X → Type 0) (xs : List X) (j : ℕ) (e : X) → AllByRecursion P xs → j < length xs → P (get_or xs j e)
all_at P [] j e all h = absurd (omega (arith, h))
all_at P (x ∷ xs) zero e all h = all.0
all_at P (x ∷ xs) (suc j) e all h = all_at P xs j e all.1 (omega (arith, h))

pair_at : {X : Type 0} (P : X → X → Type 0) (xs : List X) (i j : ℕ) (d e : X) → AllPairwise P xs → i < j → j < length xs → P (get_or xs i d) (get_or xs j e)
pair_at P [] i j d e all h k = absurd (omega (arith, k))
pair_at P (x ∷ xs) i zero d e all h k = absurd (omega (arith, h))
pair_at P (x ∷ xs) zero (suc j) d e all h k = all_at (P x) xs j e all.0 (omega (arith, k))
pair_at P (x ∷ xs) (suc i) (suc j) d e all h k = pair_at P xs i j d e all.1 (omega (arith, h)) (omega (arith, k))

swapped : (ha hd hr ka kd kr : Bool) → (((ha || hd) && kr) || (((ka || kd) && hr) || ((ha && kd) || (ka && hd)))) ≡ false → (((ka || kd) && hr) || (((ha || hd) && kr) || ((ka && hd) || (ha && kd)))) ≡ false
swapped ha hd hr ka kd kr h = grind arith

module _ {A : Type 0} (p : ℕ → Step A) (s : A → Bool) (g : List ℕ) where
  forward : (h k i j : ℕ) → AllPairwise (NoClash p s) g → i < j → j < length g → get_or g i h ≡ h → get_or g j k ≡ k → (a : A) → clash (p h) (p k) s a ≡ false
  forward h k i j all lt below hi kj a = subst (λ x. clash (p x) (p k) s a ≡ false) hi (subst (λ y. clash (p (get_or g i h)) (p y) s a ≡ false) kj (pair_at (NoClash p s) g i j h k all lt below a))

  none_interfere : AllPairwise (NoClash p s) g → NoneInterfere p s g
  none_interfere all h k ch ck apart a =
      elim (ltb ch.0 ck.0) as (λ b. ltb ch.0 ck.0 ≡ b → clash (p h) (p k) s a ≡ false) [
        | true ↦ λ e. forward h k ch.0 ck.0 all (ltb-true ch.0 ck.0 e) ck.1 ch.2 ck.2 a
        | false ↦ λ e.
            let differ : ch.0 ≡ ck.0 → ⊥ = λ same. apart (sym ch.2 ∙ (ap (λ n. get_or g n h) same ∙ (default g ck.0 h k ck.1 ∙ ck.2))) in
            let off : ch.0 < ck.0 → ⊥ = λ l. absurd (true≢false (sym (lt-ltb ch.0 ck.0 l) ∙ e)) in
            let lt : ck.0 < ch.0 = omega (arith, differ, off) in
            let back : clash (p k) (p h) s a ≡ false = forward k h ck.0 ch.0 all lt ch.1 ck.2 ch.2 a in
            swapped ((p k).adds s a) ((p k).dels s a) ((p k).reads a) ((p h).adds s a) ((p h).dels s a) ((p h).reads a) back
      ] refl

pub fine_group : {A : Type 0} (p : ℕ → Step A) (s : A → Bool) (g : List ℕ) → All (IsReady p s) g → AllPairwise (NoClash p s) g → IsFine p s g
fine_group p s g ready apart = record { ready = ready; apart = none_interfere p s g apart }

-- a group that is not fine leaves none accepted
pub not_fine : {A : Type 0} (p : ℕ → Step A) (P : (A → Bool) → List ℕ → Type 0) → ((s : A → Bool) (g : List ℕ) → P s g → IsFine p s g → ⊥) → (s : A → Bool) (hs : List (List ℕ)) (n : ℕ) → AtHappening p P s hs n → AllFine p s hs → ⊥
not_fine p P off s [] n at fine = at
not_fine p P off s (g ∷ gs) zero at fine = off s g at fine.0
not_fine p P off s (g ∷ gs) (suc n) at fine = not_fine p P off (after p s g) gs n at.1 fine.1

first_not : {X : Type 0} (P Q : X → Type 0) → ((x : X) → Q x → P x → ⊥) → (xs : List X) (k : ℕ) → FirstAt P Q xs k → All P xs → ⊥
first_not P Q off [] k f all = f
first_not P Q off (x ∷ xs) zero f all = off x f (All-head P x xs all)
first_not P Q off (x ∷ xs) (suc k) f all = first_not P Q off xs k f.1 (All-tail P x xs all)

pub unready_not_fine : {A : Type 0} (p : ℕ → Step A) (step : ℕ) (s : A → Bool) (g : List ℕ) → IsFirstUnready p s g step → IsFine p s g → ⊥
unready_not_fine p step s g first fine = first_not (IsReady p s) (λ k. (p k).ready s ≡ false) (λ k off on. true≢false (sym on ∙ off)) g first.place first.first fine.ready

first_holds : {X : Type 0} (P Q : X → Type 0) (xs : List X) (j : ℕ) (e : X) → FirstAt P Q xs j → Q (get_or xs j e)
first_holds P Q [] j e f = absurd f
first_holds P Q (x ∷ xs) zero e f = f
first_holds P Q (x ∷ xs) (suc j) e f = first_holds P Q xs j e f.1

-- the pair's places are different, so are its numbers where the group lists each once
clash_at : {X : Type 0} (P Q : X → X → Type 0) (xs : List X) (i j : ℕ) (d e : X) → FirstPairAt P Q xs i j → Q (get_or xs i d) (get_or xs j e)
clash_at P Q [] i j d e f = absurd f
clash_at P Q (x ∷ xs) i zero d e f = absurd f
clash_at P Q (x ∷ xs) zero (suc j) d e f = first_holds (P x) (Q x) xs j e f
clash_at P Q (x ∷ xs) (suc i) (suc j) d e f = clash_at P Q xs i j d e f.1

-- a clash of two places of a group that lists each step once
pub clash_not_fine : (p : ℕ → Step AtomValue) (s : AtomValue → Bool) (g : List ℕ) (first second : ℕ) (a : AtomValue) → ((i j : ℕ) → i < j → j < length g → get_or g i 0 ≢ get_or g j 0) → IsFirstClash p (IsLeast a) s g first second → IsFine p s g → ⊥
clash_not_fine p s g first second a once is fine =
    let i = is.first_place in
    let j = is.second_place in
    let within = pair_within (NoClash p s) (λ h k. IsLeast a (clash (p h) (p k) s)) g i j is.pair in
    let least : IsLeast a (clash (p (get_or g i 0)) (p (get_or g j 0)) s) = clash_at (NoClash p s) (λ h k. IsLeast a (clash (p h) (p k) s)) g i j 0 0 is.pair in
    let i_in : i < length g = omega (arith, within.0, within.1) in
    true≢false (sym least.is_in ∙ fine.apart (get_or g i 0) (get_or g j 0) (Contains-get_or g i 0 i_in) (Contains-get_or g j 0 within.1) (once i j within.0 within.1) a)

each_at : {X : Type 0} (P : X → Type 0) (xs : List X) (j : ℕ) (e : X) → AllByRecursion P xs → j < length xs → P (get_or xs j e)
each_at P [] j e all h = absurd (omega (arith, h))
each_at P (x ∷ xs) zero e all h = all.0
each_at P (x ∷ xs) (suc j) e all h = each_at P xs j e all.1 (omega (arith, h))

pub distinct_places : (g : List ℕ) → IsDistinct eqb g → (i j : ℕ) → i < j → j < length g → get_or g i 0 ≢ get_or g j 0
distinct_places [] once i j h k = absurd (omega (arith, k))
distinct_places (x ∷ xs) once i zero h k = absurd (omega (arith, h))
distinct_places (x ∷ xs) once zero (suc j) h k = λ same. true≢false (sym (eq-eqb x (get_or xs j 0) same) ∙ each_at (λ y. eqb x y ≡ false) xs j 0 (IsDistinct-head eqb x xs once) (omega (arith, k)))
distinct_places (x ∷ xs) once (suc i) (suc j) h k = distinct_places xs (IsDistinct-tail eqb x xs once) i j (omega (arith, h)) (omega (arith, k))

not_fine_once : {A : Type 0} (p : ℕ → Step A) (P : (A → Bool) → List ℕ → Type 0) → ((s : A → Bool) (g : List ℕ) → IsDistinct eqb g → P s g → IsFine p s g → ⊥) → (s : A → Bool) (hs : List (List ℕ)) (n : ℕ) → EachOnce hs → AtHappening p P s hs n → AllFine p s hs → ⊥
not_fine_once p P off s [] n once at fine = at
not_fine_once p P off s (g ∷ gs) zero once at fine = off s g once.0 at fine.0
not_fine_once p P off s (g ∷ gs) (suc n) once at fine = not_fine_once p P off (after p s g) gs n once.1 at.1 fine.1

-- happenings that are refused are not accepted
module _ {B : Type 0} (p : ℕ → Step AtomValue) (goal : (AtomValue → Bool) → Bool) (s : AtomValue → Bool) (hs : List (List ℕ)) where
  pub not_accepted : (n : ℕ) → HaveEachOnce n hs → (f : Refusal B) → IsRefusedBy p goal s hs f → NotAccepted p goal s hs
  not_accepted n each (Precondition h step) at e c run = not_fine p (λ t q. IsFirstUnready p t q step) (unready_not_fine p step) s hs h at run.fine
  not_accepted n each (Interference h first second a) at e c run = not_fine_once p (λ t q. IsFirstClash p (IsLeast a) t q first second) (λ t g once clash fine. clash_not_fine p t g first second a (distinct_places g once) clash fine) s hs h (each_once hs (is_distinct n hs each)) at run.fine
  not_accepted n each Goal off e c run = true≢false (sym run.goal_holds ∙ (ap goal run.end_is ∙ off.1))

  pub by_precondition : (f : Refusal B) → IsRefusedBy p goal s hs f → IfPrecondition f (λ h step. AtHappening p (λ t g. IsFirstUnready p t g step) s hs h)
  by_precondition (Precondition h step) at = at
  by_precondition (Interference h first second a) at = tt
  by_precondition Goal off = tt

  pub by_interference : (f : Refusal B) → IsRefusedBy p goal s hs f → IfInterference f (λ h first second a. AtHappening p (λ t g. IsFirstClash p (IsLeast a) t g first second) s hs h)
  by_interference (Precondition h step) at = tt
  by_interference (Interference h first second a) at = at
  by_interference Goal off = tt

  pub by_goal : {Q : Type 0} → (AllFine p s hs × goal (after_all p s hs) ≡ false → Q) → (f : Refusal B) → IsRefusedBy p goal s hs f → IfGoal f Q
  by_goal so (Precondition h step) at = tt
  by_goal so (Interference h first second a) at = tt
  by_goal so Goal off = so off
