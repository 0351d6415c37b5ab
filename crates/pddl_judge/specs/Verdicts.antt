-- Verdicts, by cases.
use Rattle.std.specs.Prelude.{◌≡◌, ℕ, Bool, true}
use Rattle.pddl_state.specs.Atoms.{AtomValue}
use Rattle.pddl_state.specs.AtomSets.{IsLowerBound}
use Rattle.pddl_judge.specs.declared.refusal.Refusal.{Refusal}
use Rattle.pddl_judge.specs.declared.refusal.Refusal.TheVariants.{Precondition, Interference, Goal}
use Rattle.pddl_judge.specs.declared.verdict.Accepted.{Accepted}
use Rattle.pddl_judge.specs.declared.verdict.Verdict.{Verdict}
use Rattle.pddl_judge.specs.declared.verdict.Verdict.TheVariants.{Accepted as AcceptedWith, Refused}

-- The atom is the least of a set.
pub record IsLeast (a : AtomValue) (s : AtomValue → Bool) : Type 0 where
  pub is_in : s a ≡ true
  pub least : IsLowerBound a s

abbrev pub IfPrecondition : {A : Type 0} → Refusal A → (ℕ → ℕ → Type 0) → Type 0
IfPrecondition (Precondition happening step) P = P happening step
IfPrecondition (Interference happening first second atom) P = Unit {0}
IfPrecondition Goal P = Unit {0}

abbrev pub IfInterference : {A : Type 0} → Refusal A → (ℕ → ℕ → ℕ → AtomValue → Type 0) → Type 0
IfInterference (Precondition happening step) P = Unit {0}
IfInterference (Interference happening first second atom) P = P happening first second atom
IfInterference Goal P = Unit {0}

abbrev pub IfGoal : {A : Type 0} → Refusal A → Type 0 → Type 0
IfGoal (Precondition happening step) P = Unit {0}
IfGoal (Interference happening first second atom) P = Unit {0}
IfGoal Goal P = P

-- What holds of a verdict that accepts.
abbrev pub OnAccepted : {A B S T : Type 0} → Verdict A B S T → (Accepted A B S T → Type 0) → Type 0
OnAccepted (AcceptedWith a) P = P a
OnAccepted (Refused r) P = Unit {0}

-- What holds of one that refuses.
abbrev pub OnRefused : {A B S T : Type 0} → Verdict A B S T → (Refusal A → Type 0) → Type 0
OnRefused (AcceptedWith a) P = Unit {0}
OnRefused (Refused r) P = P r
