-- A happening fails in one way.
use Rattle.std.proofs.Common.{◌≡◌, ◌<◌, ℕ, zero, suc, Bool, true, false, List, [], ◌∷◌, length, get_or, eqb, refl, sym, ap, ◌∙◌, arith, true≢false}
use Rattle.std.specs.Prelude.{Contains, slice_index}
use Rattle.std.specs.List.{IsDistinct}
use Rattle.std.proofs.lemmas.List.Elements.{All-contains, Contains-get_or}
use Rattle.pddl_happenings.specs.Accepted.{IsFine, IsReady, NoClash}
use Rattle.pddl_happenings.specs.Failures.{FirstAt, FirstPairAt, IsFirstClash, IsFirstUnready}
use Rattle.pddl_happenings.specs.Steps.{Step, clash}
use Rattle.pddl_judge.proofs.Refusals.{distinct_places, pair_within}
use Rattle.pddl_plan_commands.proofs.FirstFailures.{first_once, pair_once}

first_there : {X : Type 0} (P Q : X → Type 0) (xs : List X) (k : ℕ) → FirstAt P Q xs k → (x : X) × Contains xs x × Q x
first_there P Q [] k at = absurd at
first_there P Q (x ∷ xs) zero at = (x, (0, omega arith, refl), at)
first_there P Q (x ∷ xs) (suc k) at = let rest = first_there P Q xs k at.1 in (rest.0, (suc rest.1.0, omega (arith, rest.1.1), rest.1.2), rest.2)

first_holds : {X : Type 0} (P Q : X → Type 0) (xs : List X) (j : ℕ) (e : X) → FirstAt P Q xs j → Q (get_or xs j e)
first_holds P Q [] j e f = absurd f
first_holds P Q (x ∷ xs) zero e f = f
first_holds P Q (x ∷ xs) (suc j) e f = first_holds P Q xs j e f.1

pair_holds : {X : Type 0} (P Q : X → X → Type 0) (xs : List X) (i j : ℕ) (d e : X) → FirstPairAt P Q xs i j → Q (get_or xs i d) (get_or xs j e)
pair_holds P Q [] i j d e f = absurd f
pair_holds P Q (x ∷ xs) i zero d e f = absurd f
pair_holds P Q (x ∷ xs) zero (suc j) d e f = first_holds (P x) (Q x) xs j e f
pair_holds P Q (x ∷ xs) (suc i) (suc j) d e f = pair_holds P Q xs i j d e f.1

-- something is named of a clash, and is in it
abbrev pub HasSome : {A : Type 0} → ((A → Bool) → Type 0) → Type 0
HasSome {A} Of = (c : A → Bool) → Of c → (a : A) × (c a ≡ true)

module _ {A : Type 0} (p : ℕ → Step A) (s : A → Bool) (g : List ℕ) where
  off_ready : (k : ℕ) → IsReady p s k → (p k).ready s ≡ false → ⊥
  off_ready k on off = true≢false (sym on ∙ off)

  pub one_unready : (m n : ℕ) → IsFirstUnready p s g m → IsFirstUnready p s g n → m ≡ n
  one_unready m n one other =
      let place : one.place ≡ other.place = (first_once (IsReady p s) (λ k. (p k).ready s ≡ false) (λ k. (p k).ready s ≡ false) (Unit {0}) off_ready off_ready (λ k f h. tt) g one.place other.place one.first other.first).0 in
      sym one.is ∙ (ap (slice_index g) place ∙ other.is)

  pub unready_or_clash : (Of : (A → Bool) → Type 0) (m first second : ℕ) → IsFirstUnready p s g m → IsFirstClash p Of s g first second → ⊥
  unready_or_clash Of m first second one other =
      let there = first_there (IsReady p s) (λ k. (p k).ready s ≡ false) g one.place one.first in
      off_ready there.0 (All-contains (IsReady p s) g there.0 other.ready there.1) there.2

  off_clash : (Of : (A → Bool) → Type 0) → HasSome Of → (h k : ℕ) → NoClash p s h k → Of (clash (p h) (p k) s) → ⊥
  off_clash Of some h k none of = let on = some (clash (p h) (p k) s) of in true≢false (sym on.1 ∙ none on.0)

  pub one_clash : (Of OfIt : (A → Bool) → Type 0) (D : Type 0) → HasSome Of → HasSome OfIt → ((h k : ℕ) → Of (clash (p h) (p k) s) → OfIt (clash (p h) (p k) s) → D) → (first second third fourth : ℕ)
      → IsFirstClash p Of s g first second → IsFirstClash p OfIt s g third fourth → (first ≡ third) × (second ≡ fourth) × D
  one_clash Of OfIt D some any both first second third fourth one other =
      let same = pair_once (NoClash p s) (λ h k. Of (clash (p h) (p k) s)) (λ h k. OfIt (clash (p h) (p k) s)) D (off_clash Of some) (off_clash OfIt any) both g one.first_place one.second_place other.first_place other.second_place one.pair other.pair in
      (sym one.first_is ∙ (ap (slice_index g) same.0 ∙ other.first_is), sym one.second_is ∙ (ap (slice_index g) same.1 ∙ other.second_is), same.2)

  pub clash_not_fine : (Of : (A → Bool) → Type 0) → HasSome Of → (first second : ℕ) → IsDistinct eqb g → IsFirstClash p Of s g first second → IsFine p s g → ⊥
  clash_not_fine Of some first second once is fine =
      let i = is.first_place in
      let j = is.second_place in
      let within = pair_within (NoClash p s) (λ h k. Of (clash (p h) (p k) s)) g i j is.pair in
      let on = some (clash (p (get_or g i 0)) (p (get_or g j 0)) s) (pair_holds (NoClash p s) (λ h k. Of (clash (p h) (p k) s)) g i j 0 0 is.pair) in
      let i_in : i < length g = omega (arith, within.0, within.1) in
      true≢false (sym on.1 ∙ fine.apart (get_or g i 0) (get_or g j 0) (Contains-get_or g i 0 i_in) (Contains-get_or g j 0 within.1) (distinct_places g once i j within.0 within.1) on.0)
