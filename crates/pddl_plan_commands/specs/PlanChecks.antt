-- What `plan` and `serial` print for the texts of their files, and how they end. Own; when a plan is accepted is Fox and Long's.
use Rattle.std.specs.Prelude.{◌≡◌, ◌≢◌, ◌⊎◌, ℕ, true, false, List, [], codes, Option, Some, None, IfSome}
use Rattle.std.specs.Ordering.{is_le}
use Rattle.pddl_plan.specs.Plans.{PlanValue}
use Rattle.pddl_step_reader.specs.PlanTexts.{SpellsPlan}
use Rattle.pddl_domain.specs.Domains.{DomainValue}
use Rattle.pddl_problem.specs.Inits.{GroundValue}
use Rattle.pddl_problem.specs.Problems.{ProblemValue}
use Rattle.pddl_problem_reader.specs.ProblemTexts.{SpellsProblem}
use Rattle.pddl_task.specs.Linked.{faults, IsLinked}
use Rattle.pddl_task.specs.Tasks.{TaskValue, task_of}
use Rattle.pddl_state.specs.Atoms.{atom_cmp}
use Rattle.pddl_happenings.specs.Accepted.{AllFine, after_all}
use Rattle.pddl_happenings.specs.Failures.{AtHappening, IsFirstUnready, IsFirstClash}
use Rattle.pddl_happenings.specs.Serialisations.{Converges}
use Rattle.pddl_meaning.specs.Worlds.{Atoms}
use Rattle.pddl_plan_link.specs.declared.fault.StepFault.{StepFault}
use Rattle.pddl_plan_link.specs.declared.fault.StepFault.TheVariants as link
use Rattle.pddl_linked_plan.specs.LinkedSteps.{LinkedStepValue, linked_steps}
use Rattle.pddl_linked_plan.specs.StepFaults.{IsLinkedPlan, IsPlanFault}
use Rattle.pddl_plan_link.specs.StepVerdicts.{plan_fault_of}
use Rattle.pddl_plan_steps.specs.NumberedSteps.{number_of}
use Rattle.pddl_plan_steps.specs.PlanSteps.{named_steps, initial_state, goal_of}
use Rattle.pddl_plan_steps.specs.AcceptedPlans.{AreHappeningsOf, OfHappenings, IsAcceptedPlan}
use Rattle.pddl_kind.specs.declared.Kind.TheVariants.{Plan}
use Rattle.pddl_file_lines.specs.declared.outcome.Outcome.{Outcome}
use Rattle.pddl_file_lines.specs.declared.outcome.Outcome.TheVariants.{Good, Invalid, Refused}
use Rattle.pddl_file_lines.specs.Lines.{IsFaultLine}
use Rattle.pddl_file_lines.specs.Refusals.{IsRefused}
use Rattle.pddl_file_lines.specs.LinkRefusals.{IsLinkRefused, AreAlike}
use Rattle.pddl_file_lines.specs.Judgements.{ForDomain, ForProblem}
use Rattle.pddl_plan_lines.specs.PlanLines.{step_fault_name, unready_line, clash_line, goal_line}
use Rattle.pddl_plan_commands.specs.Printings.{Printing}

-- ---- a plan that does not link

-- the plan's fault, of the first faulty step the one with the lowest number, and its line is printed
pub record IsStepRefused (task : TaskValue) (plan : PlanValue) (printed : List ℕ) : Type 0 where
  pub fault : StepFault
  pub no_memory : fault ≢ link.Memory
  pub first : IfSome (plan_fault_of fault) (λ f. IsPlanFault task plan f.0 f.1)
  pub line : IsFaultLine (codes "plan") [] (step_fault_name fault) None printed

-- ---- a valid plan

-- The plan is accepted with an end and a cost, every serialisation of its happenings runs, to that end and at that cost, and what is printed is
-- that of these happenings, this end and this cost.
pub record IsValidPlan (Prints : Printing) (task : TaskValue) (steps : List LinkedStepValue) (printed : List ℕ) : Type 0 where
  pub end : Atoms
  pub cost : ℕ
  pub accepted : IsAcceptedPlan task steps end cost
  pub moments : List (Option ℕ)
  pub happenings : List (List ℕ)
  pub are : AreHappeningsOf steps moments happenings
  pub converges : Converges (named_steps task steps) (initial_state task) happenings
  pub prints : Prints task steps happenings end cost printed

-- ---- an invalid plan

-- Why a plan is not accepted: a step of a happening whose precondition is false; two steps of one that interfere, and an atom; or the goal.
-- Happenings and steps are numbered from 0.
pub data Failure : Type 0 where
  unready : ℕ → ℕ → Failure
  interference : ℕ → ℕ → ℕ → GroundValue → Failure
  off_goal : Failure

-- the atom is the least of a set: by predicate in declared order, and then by objects in the order of the task
pub record IsLeastNamed (task : TaskValue) (atom : GroundValue) (s : Atoms) : Type 0 where
  pub is_in : s atom ≡ true
  pub least : (other : GroundValue) → s other ≡ true → is_le (atom_cmp (number_of task atom) (number_of task other)) ≡ true

-- The failure is the plan's first: the happenings before it pass, and in its own the preconditions come before interference; of steps the first
-- in file order, of pairs the first in lexicographical order, of their clash the least atom; the goal comes last.
abbrev pub IsFirstFailure : TaskValue → List LinkedStepValue → Failure → Type 0
IsFirstFailure task steps (unready happening step) =
    OfHappenings steps (λ gs. AtHappening (named_steps task steps) (λ s g. IsFirstUnready (named_steps task steps) s g step) (initial_state task) gs happening)
IsFirstFailure task steps (interference happening first second atom) =
    OfHappenings steps (λ gs. AtHappening (named_steps task steps) (λ s g. IsFirstClash (named_steps task steps) (IsLeastNamed task atom) s g first second) (initial_state task) gs happening)
IsFirstFailure task steps off_goal =
    OfHappenings steps (λ gs. AllFine (named_steps task steps) (initial_state task) gs × (goal_of task (after_all (named_steps task steps) (initial_state task) gs) ≡ false))

-- its line
abbrev pub failure_line : Failure → List ℕ
failure_line (unready happening step) = unready_line happening step
failure_line (interference happening first second atom) = clash_line happening first second atom
failure_line off_goal = goal_line

-- the plan is accepted with no end and no cost, and the line of its first failure is printed
pub record IsInvalidPlan (task : TaskValue) (steps : List LinkedStepValue) (printed : List ℕ) : Type 0 where
  pub not_accepted : (end : Atoms) (cost : ℕ) → IsAcceptedPlan task steps end cost → ⊥
  pub failure : Failure
  pub first : IsFirstFailure task steps failure
  pub line : printed ≡ failure_line failure

-- ---- what is printed

-- What is printed for steps that are linked to a task, and how that ends.
abbrev pub AreStepsJudged : Printing → TaskValue → List LinkedStepValue → List ℕ → Outcome → Type 0
AreStepsJudged Prints task steps printed Good = IsValidPlan Prints task steps printed
AreStepsJudged Prints task steps printed Invalid = IsInvalidPlan task steps printed
AreStepsJudged Prints task steps printed Refused = ⊥

-- What is printed for a plan with a task, and how that ends: the plan does not link, or its steps are judged.
abbrev pub IsJudgedIn : Printing → TaskValue → PlanValue → List ℕ → Outcome → Type 0
IsJudgedIn Prints task plan printed outcome =
    ((outcome ≡ Refused) × IsStepRefused task plan printed) ⊎ (IsLinkedPlan task plan × AreStepsJudged Prints task (linked_steps task plan) printed outcome)

-- What is printed for a plan with a domain and a problem, and how that ends: these do not link, or the plan is judged with their task.
abbrev pub IsPlanJudged : Printing → DomainValue → ProblemValue → PlanValue → List ℕ → Outcome → Type 0
IsPlanJudged Prints d p plan printed outcome =
    ((outcome ≡ Refused) × IsLinkRefused (faults d p) printed) ⊎ (IsLinked d p × IsJudgedIn Prints (task_of d p) plan printed outcome)

-- a plan's text is refused, or the plan that it spells is judged
abbrev pub ForPlan : (PlanValue → List ℕ → Outcome → Type 0) → List ℕ → List ℕ → Outcome → Type 0
ForPlan Judged text printed outcome =
    ((outcome ≡ Refused) × IsRefused Plan text printed) ⊎ ((plan : PlanValue) × SpellsPlan plan text × Judged plan printed outcome)

-- The texts of a domain's, a problem's and a plan's file, what a command prints for them that has this printing of accepted plans, and the outcome.
-- A text after one that is refused plays no part.
abbrev pub IsPlanChecked : Printing → List ℕ → List ℕ → List ℕ → List ℕ → Outcome → Type 0
IsPlanChecked Prints domain problem plan = ForDomain (λ d. ForProblem (λ p. ForPlan (IsPlanJudged Prints d p) plan) problem) domain

-- The texts determine the outcome, and what is printed but for the word of a fault of linking.
abbrev pub EndsInOneWay : Printing → Type 0
EndsInOneWay Prints = (domain problem plan printed other : List ℕ) (outcome ended : Outcome) → IsPlanChecked Prints domain problem plan printed outcome
    → IsPlanChecked Prints domain problem plan other ended → AreAlike printed other × (outcome ≡ ended)

-- what a reader has left to give is known, and is no problem's text
abbrev pub IsNoProblem : Option (List ℕ) → Type 0
IsNoProblem remaining = (text : List ℕ) × (remaining ≡ Some text) × ((p : ProblemValue) → ¬ SpellsProblem p text)
