-- How one happening goes, and how all of them do.
use Rattle.std.specs.Prelude.{◌≡◌, ℕ, Bool, false, List}
use Rattle.pddl_state.specs.Atoms.{AtomValue}
use Rattle.pddl_happenings.specs.Steps.{Step}
use Rattle.pddl_happenings.specs.Accepted.{AllFine, IsFine, after, after_all, cost_of}
use Rattle.pddl_happenings.specs.Failures.{AtHappening, IsFirstClash, IsFirstUnready}
use Rattle.pddl_judge.specs.declared.refusal.Refusal.{Refusal}
use Rattle.pddl_judge.specs.declared.refusal.Refusal.TheVariants.{Precondition, Interference, Goal}
use Rattle.pddl_judge.specs.Verdicts.{IsLeast}

-- A happening passes: what it leads to, and at which cost.
pub record Passes {A : Type 0} (p : ℕ → Step A) (s : A → Bool) (g : List ℕ) (end : A → Bool) (cost : ℕ) : Type 0 where
  pub fine : IsFine p s g
  pub end_is : end ≡ after p s g
  pub cost_is : cost ≡ cost_of p s g

-- The happening of a number fails, and this is how.
abbrev pub FailsBy : {B : Type 0} → (ℕ → Step AtomValue) → (AtomValue → Bool) → List ℕ → ℕ → Refusal B → Type 0
FailsBy p s g n (Precondition happening step) = happening ≡ n × IsFirstUnready p s g step
FailsBy p s g n (Interference happening first second atom) = happening ≡ n × IsFirstClash p (IsLeast atom) s g first second
FailsBy p s g n Goal = ⊥

-- The first of the happenings that fails does so by this; or all pass, and the goal is false at their end.
abbrev pub IsRefusedBy : {B : Type 0} → (ℕ → Step AtomValue) → ((AtomValue → Bool) → Bool) → (AtomValue → Bool) → List (List ℕ) → Refusal B → Type 0
IsRefusedBy p goal s hs (Precondition happening step) = AtHappening p (λ t g. IsFirstUnready p t g step) s hs happening
IsRefusedBy p goal s hs (Interference happening first second atom) = AtHappening p (λ t g. IsFirstClash p (IsLeast atom) t g first second) s hs happening
IsRefusedBy p goal s hs Goal = AllFine p s hs × goal (after_all p s hs) ≡ false
