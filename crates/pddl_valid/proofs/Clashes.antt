-- The least atom of a clash by numbers is that of the clash by names.
use Rattle.std.proofs.Common.{◌≡◌, ℕ, zero, suc, Bool, true, false, ◌||◌, ◌&&◌, List, [], ◌∷◌, sym, ap, ◌∙◌, inl, inr, arith}
use Rattle.std.proofs.lemmas.Bool.{cases_Bool}
use Rattle.pddl_problem.specs.Inits.{GroundValue}
use Rattle.pddl_task.specs.Tasks.{TaskValue}
use Rattle.pddl_state.specs.Atoms.{AtomValue}
use Rattle.pddl_happenings.specs.Accepted.{NoClash, after}
use Rattle.pddl_happenings.specs.Failures.{AtHappening, FirstAt, FirstPairAt, IsFirstClash}
use Rattle.pddl_happenings.specs.NamedSteps.{DoAsNamed, by_name}
use Rattle.pddl_happenings.specs.Steps.{Step, changes, clash}
use Rattle.pddl_happenings.proofs.NamedRuns.{clash_at_named}
use Rattle.pddl_judge.specs.Verdicts.{IsLeast}
use Rattle.pddl_plan_steps.specs.NumberedSteps.{number_of}
use Rattle.pddl_valid.specs.NamedClashes.{NamesLeast}

-- what follows from Q wherever it holds follows from its first place, and so for pairs and happenings
from_first : {X : Type 0} (P Q : X → Type 0) (C : Type 0) → ((x : X) → Q x → C) → (xs : List X) (k : ℕ) → FirstAt P Q xs k → C
from_first P Q C so [] k at = absurd at
from_first P Q C so (x ∷ xs) zero at = so x at
from_first P Q C so (x ∷ xs) (suc k) at = from_first P Q C so xs k at.1

from_pair : (P Q : ℕ → ℕ → Type 0) (C : Type 0) → ((h k : ℕ) → Q h k → C) → (xs : List ℕ) (i j : ℕ) → FirstPairAt P Q xs i j → C
from_pair P Q C so [] i j at = absurd at
from_pair P Q C so (x ∷ xs) i zero at = absurd at
from_pair P Q C so (x ∷ xs) zero (suc j) at = from_first (P x) (Q x) C (so x) xs j at
from_pair P Q C so (x ∷ xs) (suc i) (suc j) at = from_pair P Q C so xs i j at.1

-- one of two steps changes what they clash on
other_changes : (a d kr b e hr : Bool) → (((a || d) && kr) || (((b || e) && hr) || ((a && e) || (b && d)))) ≡ true → (a || d) ≡ false → (b || e) ≡ true
other_changes a d kr b e hr on off = grind arith

module _ {A B : Type 0} (number : B → A) (p : ℕ → Step A) (q : ℕ → Step B) (same : DoAsNamed number p q) where
  from_happening : (P : (A → Bool) → List ℕ → Type 0) (C : Type 0) → ((s : A → Bool) (g : List ℕ) → P s g → C) → (s : A → Bool) (gs : List (List ℕ)) (n : ℕ) → AtHappening p P s gs n → C
  from_happening P C so s [] n at = absurd at
  from_happening P C so s (g ∷ gs) zero at = so s g at
  from_happening P C so s (g ∷ gs) (suc n) at = from_happening P C so (after p s g) gs n at.1

  -- an atom of a clash is the number of a named one
  clash_is_named : (s : A → Bool) (h k : ℕ) (a : A) → clash (p h) (p k) s a ≡ true → (b : B) × (a ≡ number b)
  clash_is_named s h k a on = elim (cases_Bool (changes (p h) s a)) [
    | inl one ↦ (same h).named s a one
    | inr off ↦ (same k).named s a (other_changes ((p h).adds s a) ((p h).dels s a) ((p k).reads a) ((p k).adds s a) ((p k).dels s a) ((p h).reads a) on off)
  ]

  named_clash : (Of : (A → Bool) → Type 0) (x : A) → ((c : A → Bool) → Of c → c x ≡ true) → (s : A → Bool) (gs : List (List ℕ)) (n first second : ℕ) → AtHappening p (λ t g. IsFirstClash p Of t g first second) s gs n → (b : B) × (x ≡ number b)
  named_clash Of x in_it s gs n first second at =
      from_happening (λ t g. IsFirstClash p Of t g first second) ((b : B) × (x ≡ number b)) (λ t g one.
      from_pair (NoClash p t) (λ h k. Of (clash (p h) (p k) t)) ((b : B) × (x ≡ number b)) (λ h k of. clash_is_named t h k x (in_it (clash (p h) (p k) t) of)) g one.first_place one.second_place one.pair) s gs n at

-- the least atom of the first clash by numbers is named least of the first clash by names
pub least_named : (task : TaskValue) (p : ℕ → Step AtomValue) (q : ℕ → Step GroundValue) → DoAsNamed (number_of task) p q → (x : AtomValue) (s : AtomValue → Bool) (gs : List (List ℕ)) (n first second : ℕ)
    → AtHappening p (λ t g. IsFirstClash p (IsLeast x) t g first second) s gs n → AtHappening q (λ t g. IsFirstClash q (NamesLeast task x) t g first second) (by_name (number_of task) s) gs n
least_named task p q same x s gs n first second at =
    let named : (b : GroundValue) × (x ≡ number_of task b) = named_clash (number_of task) p q same (IsLeast x) x (λ c least. least.is_in) s gs n first second at in
    clash_at_named (number_of task) p q same (IsLeast x) (NamesLeast task x) (λ c least. record {
      atom = named.0;
      number_is = named.1;
      is_in = sym (ap c named.1) ∙ least.is_in;
      least = λ g on. least.least (number_of task g) on;
    }) s gs n first second at
