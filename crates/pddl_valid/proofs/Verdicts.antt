-- What follows from what holds of a verdict that may have failed.
use Rattle.std.proofs.Common.{ℕ}
use Rattle.std.specs.Prelude.{Result, Ok, Err, IfOk}
use Rattle.pddl_state.specs.Atoms.{AtomValue}
use Rattle.pddl_judge.specs.declared.refusal.Refusal.{Refusal}
use Rattle.pddl_judge.specs.declared.refusal.Refusal.TheVariants.{Precondition, Interference, Goal}
use Rattle.pddl_judge.specs.declared.verdict.Accepted.{Accepted}
use Rattle.pddl_judge.specs.declared.verdict.Verdict.{Verdict}
use Rattle.pddl_judge.specs.declared.verdict.Verdict.TheVariants.{Accepted as AcceptedWith, Refused}
use Rattle.pddl_judge.specs.Verdicts.{IfPrecondition, IfInterference, IfGoal, OnAccepted, OnRefused}

module _ {A B S T E : Type 0} where
  pub accepted_so : (P Q : Accepted A B S T → Type 0) → ((a : Accepted A B S T) → P a → Q a) → (r : Result (Verdict A B S T) E) → IfOk r (λ v. OnAccepted v P) → IfOk r (λ v. OnAccepted v Q)
  accepted_so P Q so (Err e) h = tt
  accepted_so P Q so (Ok (AcceptedWith a)) h = so a h
  accepted_so P Q so (Ok (Refused r)) h = tt

  pub accepted_both : (P Q : Accepted A B S T → Type 0) → (r : Result (Verdict A B S T) E) → IfOk r (λ v. OnAccepted v P) → IfOk r (λ v. OnAccepted v Q) → IfOk r (λ v. OnAccepted v (λ a. P a × Q a))
  accepted_both P Q (Err e) h k = tt
  accepted_both P Q (Ok (AcceptedWith a)) h k = (h, k)
  accepted_both P Q (Ok (Refused r)) h k = tt

  pub refused_so : (P Q : Refusal A → Type 0) → ((f : Refusal A) → P f → Q f) → (r : Result (Verdict A B S T) E) → IfOk r (λ v. OnRefused v P) → IfOk r (λ v. OnRefused v Q)
  refused_so P Q so (Err e) h = tt
  refused_so P Q so (Ok (AcceptedWith a)) h = tt
  refused_so P Q so (Ok (Refused r)) h = so r h

module _ {A : Type 0} where
  pub precondition_so : (P Q : ℕ → ℕ → Type 0) → ((h step : ℕ) → P h step → Q h step) → (f : Refusal A) → IfPrecondition f P → IfPrecondition f Q
  precondition_so P Q so (Precondition h step) k = so h step k
  precondition_so P Q so (Interference h first second x) k = tt
  precondition_so P Q so Goal k = tt

  pub interference_so : (P Q : ℕ → ℕ → ℕ → AtomValue → Type 0) → ((h first second : ℕ) (x : AtomValue) → P h first second x → Q h first second x) → (f : Refusal A) → IfInterference f P → IfInterference f Q
  interference_so P Q so (Precondition h step) k = tt
  interference_so P Q so (Interference h first second x) k = so h first second x k
  interference_so P Q so Goal k = tt

  pub goal_so : (P Q : Type 0) → (P → Q) → (f : Refusal A) → IfGoal f P → IfGoal f Q
  goal_so P Q so (Precondition h step) k = tt
  goal_so P Q so (Interference h first second x) k = tt
  goal_so P Q so Goal k = so k
