-- What is said of a linked plan by numbers holds of it by names.
use Rattle.std.proofs.Common.{◌≡◌, ℕ, Bool, false, List, sym, ap, ◌∙◌, subst}
use Rattle.std.specs.Prelude.{Option}
use Rattle.pddl_domain.specs.Domains.{DomainValue}
use Rattle.pddl_problem.specs.Inits.{GroundValue}
use Rattle.pddl_problem.specs.Problems.{ProblemValue}
use Rattle.pddl_task.specs.Linked.{IsLinked}
use Rattle.pddl_task.specs.Tasks.{TaskValue, task_of}
use Rattle.pddl_state.specs.Atoms.{AtomValue}
use Rattle.pddl_happenings.specs.Accepted.{AllFine, IsAcceptedRun, NotAccepted, after_all}
use Rattle.pddl_happenings.specs.Failures.{AtHappening, IsFirstClash, IsFirstUnready}
use Rattle.pddl_happenings.specs.Happenings.{HaveEachOnce}
use Rattle.pddl_happenings.specs.NamedSteps.{by_name, DoAsNamed}
use Rattle.pddl_happenings.specs.Serialisations.{Converges}
use Rattle.pddl_happenings.specs.Steps.{Step}
use Rattle.pddl_happenings.proofs.ListedOnce.{is_distinct}
use Rattle.pddl_happenings.proofs.NamedRuns.{accepted_named, end_alike, fine_alike, refused_named, unready_named}
use Rattle.pddl_happenings.proofs.NewPlans.{converge}
use Rattle.pddl_meaning.specs.Worlds.{Atoms}
use Rattle.pddl_judge.specs.Verdicts.{IsLeast}
use Rattle.pddl_linked_plan.specs.LinkedSteps.{LinkedStepValue, AreLinkedSteps}
use Rattle.pddl_linked_plan.proofs.SoundSteps.{steps_are_sound}
use Rattle.pddl_plan_steps.specs.NumberedSteps.{number_of}
use Rattle.pddl_plan_steps.specs.PlanSteps.{named_steps, numbered_steps, initial_state, numbered_start, goal_of, numbered_goal}
use Rattle.pddl_plan_steps.proofs.PlanSteps.{plan_as_named, start_as_named}
use Rattle.pddl_plan_steps.specs.AcceptedPlans.{AreHappeningsOf, OfHappenings, IsAcceptedPlan}
use Rattle.pddl_valid.specs.NamedClashes.{NamesLeast}
use Rattle.pddl_valid.proofs.Clashes.{least_named}
use Rattle.pddl_plan_steps.proofs.NamedFrames.{named_framed}
use Rattle.pddl_plan_steps.proofs.OnlyHappenings.{of_happenings}

-- A course of numbered steps with a goal and a start is that of a linked plan, and the happenings are the plan's.
pub record IsCourseOf (d : DomainValue) (p : ProblemValue) (steps : List LinkedStepValue) (course : ℕ → Step AtomValue) (goal : (AtomValue → Bool) → Bool) (s : AtomValue → Bool) (at : List (Option ℕ)) (gs : List (List ℕ)) : Type 0 where
  pub linked : IsLinked d p
  pub are : AreLinkedSteps (task_of d p) steps
  pub course_is : course ≡ numbered_steps (task_of d p) steps
  pub goal_is : goal ≡ numbered_goal (task_of d p)
  pub start_is : s ≡ numbered_start (task_of d p)
  pub of : AreHappeningsOf steps at gs

module _ {d : DomainValue} {p : ProblemValue} {steps : List LinkedStepValue} {course : ℕ → Step AtomValue} {goal : (AtomValue → Bool) → Bool} {s : AtomValue → Bool} {at : List (Option ℕ)} {gs : List (List ℕ)} (run : IsCourseOf d p steps course goal s at gs) where
  abbrev task : TaskValue
  task = task_of d p

  abbrev named : ℕ → Step GroundValue
  named = named_steps task steps

  pub same : DoAsNamed (number_of task) course named
  same = subst (λ q. DoAsNamed (number_of task) q named) (sym run.course_is) (plan_as_named d p run.linked steps run.are)

  pub start : by_name (number_of task) s ≡ initial_state task
  start = ap (by_name (number_of task)) run.start_is ∙ start_as_named d p run.linked

  goals : (t : AtomValue → Bool) → goal t ≡ goal_of task (by_name (number_of task) t)
  goals t = ap (λ (q : (AtomValue → Bool) → Bool). q t) run.goal_is

  pub holds : (P : Atoms → List (List ℕ) → Type 0) → P (by_name (number_of task) s) gs → OfHappenings steps (P (initial_state task))
  holds P h = of_happenings steps ((steps_are_sound d p run.linked steps).0 run.are).alike at gs run.of (P (initial_state task)) (subst (λ t. P t gs) start h)

  pub accepted : (end : AtomValue → Bool) (cost : ℕ) → IsAcceptedRun course goal s gs end cost → IsAcceptedPlan task steps (by_name (number_of task) end) cost
  accepted end cost done =
      holds (λ t hs. IsAcceptedRun named (goal_of task) t hs (by_name (number_of task) end) cost)
      (accepted_named (number_of task) course named same goal (goal_of task) goals s end cost gs done)

  fine : AllFine course s gs → AllFine named (by_name (number_of task) s) gs
  fine = (fine_alike (number_of task) course named same s gs).0

  pub converges : (n : ℕ) → HaveEachOnce n gs → AllFine course s gs → Converges named (initial_state task) gs
  converges n each pass =
      converge named (named_framed task steps) (initial_state task) gs (is_distinct n gs each) (subst (λ t. AllFine named t gs) start (fine pass))

  pub unready : (h step : ℕ) → AtHappening course (λ t g. IsFirstUnready course t g step) s gs h
      → OfHappenings steps (λ hs. AtHappening named (λ t g. IsFirstUnready named t g step) (initial_state task) hs h)
  unready h step at_h = holds (λ t hs. AtHappening named (λ u g. IsFirstUnready named u g step) t hs h) (unready_named (number_of task) course named same s gs h step at_h)

  pub clashes : (h first second : ℕ) (x : AtomValue) → AtHappening course (λ t g. IsFirstClash course (IsLeast x) t g first second) s gs h
      → OfHappenings steps (λ hs. AtHappening named (λ t g. IsFirstClash named (NamesLeast task x) t g first second) (initial_state task) hs h)
  clashes h first second x at_h =
      holds (λ t hs. AtHappening named (λ u g. IsFirstClash named (NamesLeast task x) u g first second) t hs h) (least_named task course named same x s gs h first second at_h)

  pub passes : AllFine course s gs → OfHappenings steps (λ hs. AllFine named (initial_state task) hs)
  passes pass = holds (λ t hs. AllFine named t hs) (fine pass)

  pub off_goal : goal (after_all course s gs) ≡ false → OfHappenings steps (λ hs. goal_of task (after_all named (initial_state task) hs) ≡ false)
  off_goal off =
      holds (λ t hs. goal_of task (after_all named t hs) ≡ false)
      (ap (goal_of task) (sym (end_alike (number_of task) course named same s gs)) ∙ (sym (goals (after_all course s gs)) ∙ off))

  pub refused : NotAccepted course goal s gs → (end : Atoms) (cost : ℕ) → IsAcceptedPlan task steps end cost → ⊥
  refused none end cost plan =
      refused_named (number_of task) course named same goal (goal_of task) goals s gs none end cost
      (subst (λ t. IsAcceptedRun named (goal_of task) t gs end cost) (sym start) (plan at gs run.of))
