-- What is shown of a verdict is what is said of the plan.
use Rattle.std.proofs.Common.{◌≡◌, ℕ, true, false, List, sym, subst}
use Rattle.std.specs.Ordering.{is_le}
use Rattle.pddl_domain.specs.Domains.{DomainValue}
use Rattle.pddl_problem.specs.Problems.{ProblemValue}
use Rattle.pddl_task.specs.Linked.{IsLinked}
use Rattle.pddl_task.specs.Tasks.{TaskValue, task_of}
use Rattle.pddl_state.specs.Atoms.{AtomValue, atom_cmp}
use Rattle.pddl_happenings.specs.Accepted.{AllFine, after_all}
use Rattle.pddl_happenings.specs.Failures.{AtHappening, IsFirstClash, IsFirstUnready}
use Rattle.pddl_happenings.specs.Serialisations.{Converges}
use Rattle.pddl_happenings.specs.Steps.{clash}
use Rattle.pddl_judge.specs.declared.refusal.Refusal.{Refusal}
use Rattle.pddl_judge.specs.declared.refusal.Refusal.TheVariants.{Precondition, Interference, Goal}
use Rattle.pddl_judge.specs.declared.verdict.Accepted.{Accepted}
use Rattle.pddl_judge.specs.declared.verdict.Verdict.{Verdict}
use Rattle.pddl_judge.specs.declared.verdict.Verdict.TheVariants as verdicts
use Rattle.pddl_judge.specs.HappeningValues.{groups_of, moments_of}
use Rattle.pddl_judge.specs.Verdicts.{IfPrecondition, IfInterference, IfGoal, OnAccepted, OnRefused}
use Rattle.pddl_meaning.specs.Worlds.{Atoms}
use Rattle.pddl_linked_plan.specs.LinkedSteps.{LinkedStepValue, AreLinkedSteps}
use Rattle.pddl_linked_plan.specs.NumberedAtoms.{named_atom, IsInRange}
use Rattle.pddl_linked_plan.proofs.InitialAtoms.{known_in_range}
use Rattle.pddl_linked_plan.proofs.SoundSteps.{steps_are_sound}
use Rattle.pddl_plan_steps.specs.NumberedSteps.{number_of}
use Rattle.pddl_plan_steps.specs.PlanSteps.{named_steps, initial_state, goal_of}
use Rattle.pddl_plan_steps.specs.AcceptedPlans.{AreHappeningsOf, OfHappenings, IsAcceptedPlan}
use Rattle.pddl_valid.specs.NamedClashes.{NamesLeast}
use Rattle.pddl_file_lines.specs.declared.outcome.Outcome.{Outcome}
use Rattle.pddl_plan_commands.specs.Printings.{Printing}
use Rattle.pddl_plan_commands.specs.PlanChecks.{IsLeastNamed, IsFirstFailure, AreStepsJudged}
use Rattle.pddl_plan_commands.specs.Inner.ShownVerdicts.{failure_of, IsShown, IsVerdictOf}
use Rattle.pddl_plan_commands.proofs.FirstFailures.{clash_so, clash_gives}
use Rattle.pddl_plan_commands.proofs.KnownClashes.{clash_known}
use Rattle.pddl_plan_commands.proofs.SomeHappenings.{some_happenings}

module _ (d : DomainValue) (p : ProblemValue) (linked : IsLinked d p) (steps : List LinkedStepValue) (are : AreLinkedSteps (task_of d p) steps) where
  abbrev task : TaskValue
  task = task_of d p

  -- what is said of a refusal's parts
  abbrev UnreadyAt : ℕ → ℕ → Type 0
  UnreadyAt h step =
      OfHappenings steps (λ gs. AtHappening (named_steps task steps) (λ s g. IsFirstUnready (named_steps task steps) s g step) (initial_state task) gs h)

  abbrev ClashOn : ℕ → ℕ → ℕ → AtomValue → Type 0
  ClashOn h first second x =
      OfHappenings steps (λ gs. AtHappening (named_steps task steps) (λ s g. IsFirstClash (named_steps task steps) (NamesLeast task x) s g first second) (initial_state task) gs h)

  abbrev AllPass : Type 0
  AllPass = OfHappenings steps (λ gs. AllFine (named_steps task steps) (initial_state task) gs)

  abbrev OffGoal : Type 0
  OffGoal = OfHappenings steps (λ gs. goal_of task (after_all (named_steps task steps) (initial_state task) gs) ≡ false)

  -- ---- the atom of a clash

  -- the numbers are those of a known atom, which has these names
  named_by : (x : AtomValue) (s : Atoms) (h k : ℕ) (least : NamesLeast task x (clash (named_steps task steps h) (named_steps task steps k) s)) → IsInRange task x × (named_atom task x ≡ least.atom)
  named_by x s h k least =
      subst (λ y. IsInRange task y × (named_atom task y ≡ least.atom)) (sym least.number_is) (known_in_range task least.atom (clash_known d p linked steps are s h k least.atom least.is_in))

  in_range : (h first second : ℕ) (x : AtomValue) → ClashOn h first second x → IsInRange task x
  in_range h first second x fails =
      let some = some_happenings steps ((steps_are_sound d p linked steps).0 are).alike in
      clash_gives (named_steps task steps) (NamesLeast task x) (IsInRange task x)
      (λ s i j least. (named_by x s i j least).0) (initial_state task) some.1 h first second (fails some.0 some.1 some.2)

  least_of : (x : AtomValue) (s : Atoms) (h k : ℕ) → NamesLeast task x (clash (named_steps task steps h) (named_steps task steps k) s) → IsLeastNamed task (named_atom task x) (clash (named_steps task steps h) (named_steps task steps k) s)
  least_of x s h k least =
      let named : named_atom task x ≡ least.atom = (named_by x s h k least).1 in
      subst (λ g. IsLeastNamed task g (clash (named_steps task steps h) (named_steps task steps k) s)) (sym named) (record {
        is_in = least.is_in;
        least = λ other on. subst (λ y. is_le (atom_cmp y (number_of task other)) ≡ true) least.number_is (least.least other on);
      })

  clash_on : (h first second : ℕ) (x : AtomValue) → ClashOn h first second x
      → OfHappenings steps (λ gs. AtHappening (named_steps task steps) (λ s g. IsFirstClash (named_steps task steps) (IsLeastNamed task (named_atom task x)) s g first second) (initial_state task) gs h)
  clash_on h first second x fails at gs of =
      clash_so (named_steps task steps) (NamesLeast task x) (IsLeastNamed task (named_atom task x)) (least_of x) (initial_state task) gs h first second (fails at gs of)

  -- ---- a verdict

  module _ {A : Type 0} where
    in_range_of : (r : Refusal A) → IfInterference r ClashOn → IfInterference r (λ _ _ _ x. IsInRange task x)
    in_range_of (Precondition h step) is = tt
    in_range_of (Interference h first second x) is = in_range h first second x is
    in_range_of Goal is = tt

    first_failure : (r : Refusal A) → IfPrecondition r UnreadyAt → IfInterference r ClashOn → IfGoal r AllPass → IfGoal r OffGoal → IsFirstFailure task steps (failure_of task r)
    first_failure (Precondition h step) unready clashes pass off = unready
    first_failure (Interference h first second x) unready clashes pass off = clash_on h first second x clashes
    first_failure Goal unready clashes pass off = λ at gs of. (pass at gs of, off at gs of)

  module _ {A B S T : Type 0} where
    -- the atom of a refusal has names
    pub shown_in_range : (v : Verdict A B S T) → OnRefused v (λ r. IfInterference r ClashOn) → OnRefused v (λ r. IfInterference r (λ _ _ _ x. IsInRange task x))
    shown_in_range (verdicts.Accepted a) is = tt
    shown_in_range (verdicts.Refused r) is = in_range_of r is

    -- what is accepted is that of the task and its steps
    pub verdict_of : (v : Verdict A B S T) (end_of : Accepted A B S T → Atoms)
        → OnAccepted v (λ a. AreHappeningsOf steps (moments_of a.happenings.items) (groups_of a.happenings.items))
        → OnAccepted v (λ a. IsAcceptedPlan task steps (end_of a) a.cost) → IsVerdictOf task steps end_of v
    verdict_of (verdicts.Accepted a) end_of of accepted = record { linked = are; happenings = of; accepted = accepted }
    verdict_of (verdicts.Refused r) end_of of accepted = tt

    pub shown_judged : (Prints : Printing) (v : Verdict A B S T) (end_of : Accepted A B S T → Atoms)
        → OnAccepted v (λ a. AreHappeningsOf steps (moments_of a.happenings.items) (groups_of a.happenings.items))
        → OnAccepted v (λ a. IsAcceptedPlan task steps (end_of a) a.cost)
        → OnAccepted v (λ a. Converges (named_steps task steps) (initial_state task) (groups_of a.happenings.items))
        → OnRefused v (λ r. IfPrecondition r UnreadyAt) → OnRefused v (λ r. IfInterference r ClashOn) → OnRefused v (λ r. IfGoal r AllPass) → OnRefused v (λ r. IfGoal r OffGoal)
        → OnRefused v (λ r. (end : Atoms) (cost : ℕ) → IsAcceptedPlan task steps end cost → ⊥)
        → (printed : List ℕ) (outcome : Outcome) → IsShown Prints task steps end_of v printed outcome → AreStepsJudged Prints task steps printed outcome
    shown_judged Prints (verdicts.Accepted a) end_of of accepted converges unready clashes pass off none printed outcome (is, prints) = subst (AreStepsJudged Prints task steps printed) (sym is) (record {
      end = end_of a;
      cost = a.cost;
      accepted = accepted;
      moments = moments_of a.happenings.items;
      happenings = groups_of a.happenings.items;
      are = of;
      converges = converges;
      prints = prints;
    })
    shown_judged Prints (verdicts.Refused r) end_of of accepted converges unready clashes pass off none printed outcome (is, line) = subst (AreStepsJudged Prints task steps printed) (sym is) (record {
      not_accepted = none;
      failure = failure_of task r;
      first = first_failure r unready clashes pass off;
      line = line;
    })
