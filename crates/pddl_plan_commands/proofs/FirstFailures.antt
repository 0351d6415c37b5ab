-- Where happenings fail first: what holds there, and that it is one place.
use Rattle.std.proofs.Common.{◌≡◌, ℕ, zero, suc, Bool, List, [], ◌∷◌, eqb, refl, ap}
use Rattle.std.specs.List.{AllByRecursion, IsDistinct}
use Rattle.pddl_happenings.specs.Accepted.{AllFine, IsFine, NoClash, after}
use Rattle.pddl_happenings.specs.Failures.{AtHappening, FirstAt, FirstPairAt, IsFirstClash}
use Rattle.pddl_happenings.specs.Steps.{Step, clash}
use Rattle.pddl_happenings.proofs.Forms.{EachOnce}

-- ---- what follows wherever something holds, follows from its first place

pub first_gives : {X : Type 0} (P Q : X → Type 0) (C : Type 0) → ((x : X) → Q x → C) → (xs : List X) (k : ℕ) → FirstAt P Q xs k → C
first_gives P Q C so [] k at = absurd at
first_gives P Q C so (x ∷ xs) zero at = so x at
first_gives P Q C so (x ∷ xs) (suc k) at = first_gives P Q C so xs k at.1

pub pair_gives : {X : Type 0} (P Q : X → X → Type 0) (C : Type 0) → ((x y : X) → Q x y → C) → (xs : List X) (i j : ℕ) → FirstPairAt P Q xs i j → C
pair_gives P Q C so [] i j at = absurd at
pair_gives P Q C so (x ∷ xs) i zero at = absurd at
pair_gives P Q C so (x ∷ xs) zero (suc j) at = first_gives (P x) (Q x) C (so x) xs j at
pair_gives P Q C so (x ∷ xs) (suc i) (suc j) at = pair_gives P Q C so xs i j at.1

module _ {A : Type 0} (p : ℕ → Step A) where
  pub happening_gives : (P : (A → Bool) → List ℕ → Type 0) (C : Type 0) → ((s : A → Bool) (g : List ℕ) → P s g → C) → (s : A → Bool) (gs : List (List ℕ)) (n : ℕ) → AtHappening p P s gs n → C
  happening_gives P C so s [] n at = absurd at
  happening_gives P C so s (g ∷ gs) zero at = so s g at
  happening_gives P C so s (g ∷ gs) (suc n) at = happening_gives P C so (after p s g) gs n at.1

-- ---- what follows from what holds there

first_so : {X : Type 0} (P Q R : X → Type 0) → ((x : X) → Q x → R x) → (xs : List X) (k : ℕ) → FirstAt P Q xs k → FirstAt P R xs k
first_so P Q R so [] k at = at
first_so P Q R so (x ∷ xs) zero at = so x at
first_so P Q R so (x ∷ xs) (suc k) at = (at.0, first_so P Q R so xs k at.1)

pair_so : {X : Type 0} (P Q R : X → X → Type 0) → ((x y : X) → Q x y → R x y) → (xs : List X) (i j : ℕ) → FirstPairAt P Q xs i j → FirstPairAt P R xs i j
pair_so P Q R so [] i j at = at
pair_so P Q R so (x ∷ xs) i zero at = absurd at
pair_so P Q R so (x ∷ xs) zero (suc j) at = first_so (P x) (Q x) (R x) (so x) xs j at
pair_so P Q R so (x ∷ xs) (suc i) (suc j) at = (at.0, pair_so P Q R so xs i j at.1)

module _ {A : Type 0} (p : ℕ → Step A) where
  happening_so : (P Q : (A → Bool) → List ℕ → Type 0) → ((s : A → Bool) (g : List ℕ) → P s g → Q s g) → (s : A → Bool) (gs : List (List ℕ)) (n : ℕ) → AtHappening p P s gs n → AtHappening p Q s gs n
  happening_so P Q so s [] n at = at
  happening_so P Q so s (g ∷ gs) zero at = so s g at
  happening_so P Q so s (g ∷ gs) (suc n) at = (at.0, happening_so P Q so (after p s g) gs n at.1)

  -- of the clash that is named
  pub clash_so : (Of OfIt : (A → Bool) → Type 0) → ((s : A → Bool) (h k : ℕ) → Of (clash (p h) (p k) s) → OfIt (clash (p h) (p k) s)) → (s : A → Bool) (gs : List (List ℕ)) (n first second : ℕ)
      → AtHappening p (λ t g. IsFirstClash p Of t g first second) s gs n → AtHappening p (λ t g. IsFirstClash p OfIt t g first second) s gs n
  clash_so Of OfIt so s gs n first second at = happening_so (λ t g. IsFirstClash p Of t g first second) (λ t g. IsFirstClash p OfIt t g first second) (λ t g one. record {
    ready = one.ready;
    first_place = one.first_place;
    second_place = one.second_place;
    first_is = one.first_is;
    second_is = one.second_is;
    pair = pair_so (NoClash p t) (λ h k. Of (clash (p h) (p k) t)) (λ h k. OfIt (clash (p h) (p k) t)) (so t) g one.first_place one.second_place one.pair;
  }) s gs n at

  pub clash_gives : (Of : (A → Bool) → Type 0) (C : Type 0) → ((s : A → Bool) (h k : ℕ) → Of (clash (p h) (p k) s) → C) → (s : A → Bool) (gs : List (List ℕ)) (n first second : ℕ)
      → AtHappening p (λ t g. IsFirstClash p Of t g first second) s gs n → C
  clash_gives Of C so s gs n first second at =
      happening_gives p (λ t g. IsFirstClash p Of t g first second) C
      (λ t g one. pair_gives (NoClash p t) (λ h k. Of (clash (p h) (p k) t)) C (so t) g one.first_place one.second_place one.pair) s gs n at

-- ---- one place

pub first_once : {X : Type 0} (P Q R : X → Type 0) (D : Type 0) → ((x : X) → P x → Q x → ⊥) → ((x : X) → P x → R x → ⊥) → ((x : X) → Q x → R x → D) → (xs : List X) (i j : ℕ) → FirstAt P Q xs i → FirstAt P R xs j → (i ≡ j) × D
first_once P Q R D off away both [] i j f g = absurd f
first_once P Q R D off away both (x ∷ xs) zero zero f g = (refl, both x f g)
first_once P Q R D off away both (x ∷ xs) zero (suc j) f g = absurd (off x g.0 f)
first_once P Q R D off away both (x ∷ xs) (suc i) zero f g = absurd (away x f.0 g)
first_once P Q R D off away both (x ∷ xs) (suc i) (suc j) f g = let rest = first_once P Q R D off away both xs i j f.1 g.1 in (ap suc rest.0, rest.1)

first_not : {X : Type 0} (P Q : X → Type 0) → ((x : X) → P x → Q x → ⊥) → (xs : List X) (k : ℕ) → FirstAt P Q xs k → AllByRecursion P xs → ⊥
first_not P Q off [] k f all = f
first_not P Q off (x ∷ xs) zero f all = off x all.0 f
first_not P Q off (x ∷ xs) (suc k) f all = first_not P Q off xs k f.1 all.1

pub pair_once : {X : Type 0} (P Q R : X → X → Type 0) (D : Type 0) → ((x y : X) → P x y → Q x y → ⊥) → ((x y : X) → P x y → R x y → ⊥) → ((x y : X) → Q x y → R x y → D) → (xs : List X) (i j k l : ℕ)
    → FirstPairAt P Q xs i j → FirstPairAt P R xs k l → (i ≡ k) × (j ≡ l) × D
pair_once P Q R D off away both [] i j k l f g = absurd f
pair_once P Q R D off away both (x ∷ xs) i zero k l f g = absurd f
pair_once P Q R D off away both (x ∷ xs) i (suc j) k zero f g = absurd g
pair_once P Q R D off away both (x ∷ xs) zero (suc j) zero (suc l) f g = let one = first_once (P x) (Q x) (R x) D (off x) (away x) (both x) xs j l f g in (refl, ap suc one.0, one.1)
pair_once P Q R D off away both (x ∷ xs) zero (suc j) (suc k) (suc l) f g = absurd (first_not (P x) (Q x) (off x) xs j f g.0)
pair_once P Q R D off away both (x ∷ xs) (suc i) (suc j) zero (suc l) f g = absurd (first_not (P x) (R x) (away x) xs l g f.0)
pair_once P Q R D off away both (x ∷ xs) (suc i) (suc j) (suc k) (suc l) f g = let rest = pair_once P Q R D off away both xs i j k l f.1 g.1 in (ap suc rest.0, ap suc rest.1, rest.2)

module _ {A : Type 0} (p : ℕ → Step A) where
  pub happening_once : (P Q : (A → Bool) → List ℕ → Type 0) (D : Type 0) → ((s : A → Bool) (g : List ℕ) → IsDistinct eqb g → P s g → IsFine p s g → ⊥) → ((s : A → Bool) (g : List ℕ) → IsDistinct eqb g → Q s g → IsFine p s g → ⊥)
      → ((s : A → Bool) (g : List ℕ) → P s g → Q s g → D) → (s : A → Bool) (gs : List (List ℕ)) (n m : ℕ) → EachOnce gs → AtHappening p P s gs n → AtHappening p Q s gs m → (n ≡ m) × D
  happening_once P Q D off away both s [] n m once f g = absurd f
  happening_once P Q D off away both s (g ∷ gs) zero zero once f h = (refl, both s g f h)
  happening_once P Q D off away both s (g ∷ gs) zero (suc m) once f h = absurd (off s g once.0 f h.0)
  happening_once P Q D off away both s (g ∷ gs) (suc n) zero once f h = absurd (away s g once.0 h f.0)
  happening_once P Q D off away both s (g ∷ gs) (suc n) (suc m) once f h = let rest = happening_once P Q D off away both (after p s g) gs n m once.1 f.1 h.1 in (ap suc rest.0, rest.1)

  pub not_all_fine : (P : (A → Bool) → List ℕ → Type 0) → ((s : A → Bool) (g : List ℕ) → IsDistinct eqb g → P s g → IsFine p s g → ⊥) → (s : A → Bool) (gs : List (List ℕ)) (n : ℕ) → EachOnce gs → AtHappening p P s gs n → AllFine p s gs → ⊥
  not_all_fine P off s [] n once at fine = at
  not_all_fine P off s (g ∷ gs) zero once at fine = off s g once.0 at fine.0
  not_all_fine P off s (g ∷ gs) (suc n) once at fine = not_all_fine P off (after p s g) gs n once.1 at.1 fine.1
