-- Verdicts as the program shows them. No public contract names these.
use Rattle.std.specs.Prelude.{◌≡◌, ℕ, List}
use Rattle.pddl_task.specs.Tasks.{TaskValue}
use Rattle.pddl_judge.specs.declared.refusal.Refusal.{Refusal}
use Rattle.pddl_judge.specs.declared.refusal.Refusal.TheVariants.{Precondition, Interference, Goal}
use Rattle.pddl_judge.specs.declared.verdict.Accepted.{Accepted}
use Rattle.pddl_judge.specs.declared.verdict.Verdict.{Verdict}
use Rattle.pddl_judge.specs.declared.verdict.Verdict.TheVariants as verdicts
use Rattle.pddl_judge.specs.HappeningValues.{groups_of, moments_of}
use Rattle.pddl_judge.specs.Verdicts.{OnAccepted}
use Rattle.pddl_meaning.specs.Worlds.{Atoms}
use Rattle.pddl_linked_plan.specs.LinkedSteps.{LinkedStepValue}
use Rattle.pddl_linked_plan.specs.NumberedAtoms.{named_atom}
use Rattle.pddl_serial_plans.specs.NewPlans.{IsAcceptedOf}
use Rattle.pddl_file_lines.specs.declared.outcome.Outcome.{Outcome}
use Rattle.pddl_file_lines.specs.declared.outcome.Outcome.TheVariants.{Good, Invalid}
use Rattle.pddl_plan_commands.specs.Printings.{Printing}
use Rattle.pddl_plan_commands.specs.PlanChecks.{Failure, unready, interference, off_goal, failure_line}

-- why a plan is refused, by the names of a task
abbrev pub failure_of : {A : Type 0} → TaskValue → Refusal A → Failure
failure_of task (Precondition happening step) = unready happening step
failure_of task (Interference happening first second atom) = interference happening first second (named_atom task atom)
failure_of task Goal = off_goal

-- what is printed for the verdict on steps, whose end has these atoms where they are accepted, and the outcome
abbrev pub IsShown : {A B S T : Type 0} → Printing → TaskValue → List LinkedStepValue → (Accepted A B S T → Atoms) → Verdict A B S T → List ℕ → Outcome → Type 0
IsShown Prints task steps end_of (verdicts.Accepted a) printed outcome = (outcome ≡ Good) × Prints task steps (groups_of a.happenings.items) (end_of a) a.cost printed
IsShown Prints task steps end_of (verdicts.Refused r) printed outcome = (outcome ≡ Invalid) × (printed ≡ failure_line (failure_of task r))

-- what is accepted is that of the task and its steps
abbrev pub IsVerdictOf : {A B S T : Type 0} → TaskValue → List LinkedStepValue → (Accepted A B S T → Atoms) → Verdict A B S T → Type 0
IsVerdictOf task steps end_of v = OnAccepted v (λ a. IsAcceptedOf task steps (moments_of a.happenings.items) (groups_of a.happenings.items) (end_of a) a.cost)
