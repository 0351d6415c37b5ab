-- What is said by numbers of a list that is executed holds by names.
use Rattle.std.proofs.Common.{◌≡◌, ℕ, Bool, List, sym, ap, ◌∙◌, subst}
use Rattle.std.specs.Prelude.{Option, Result, Ok, Err, IfOk, MatchResult}
use Rattle.pddl_domain.specs.Domains.{DomainValue}
use Rattle.pddl_problem.specs.Problems.{ProblemValue}
use Rattle.pddl_task.specs.Tasks.{TaskValue, task_of}
use Rattle.pddl_state.specs.Atoms.{AtomValue}
use Rattle.pddl_state.specs.AtomSets.{IsRising, is_listed}
use Rattle.pddl_happenings.specs.Accepted.{after_all, cost_of_all}
use Rattle.pddl_happenings.specs.Happenings.{singles}
use Rattle.pddl_happenings.specs.NamedSteps.{by_name}
use Rattle.pddl_happenings.specs.Serialisations.{IsSerialOrder, RunsSerially, FailsAt}
use Rattle.pddl_happenings.specs.Steps.{Step}
use Rattle.pddl_happenings.proofs.NamedRuns.{end_alike, cost_alike}
use Rattle.pddl_linked_plan.specs.LinkedSteps.{LinkedStepValue}
use Rattle.pddl_plan_steps.specs.NumberedSteps.{number_of}
use Rattle.pddl_plan_steps.specs.PlanSteps.{named_steps}
use Rattle.pddl_serial.specs.Replays.{OnNotASerialisation, OnSerialisation, OnStepFails, OnEnded}
use Rattle.pddl_serial.specs.declared.replaying.End.{End}
use Rattle.pddl_serial.specs.declared.replaying.Replayed.{Replayed}
use Rattle.pddl_serial.specs.declared.replaying.Replayed.TheVariants.{NotASerialisation, StepFails, Ended}
use Rattle.pddl_valid.proofs.NamedPlans.{IsCourseOf, same, start, holds}
use Rattle.pddl_valid.specs.declared.fault.ReplayFault.{ReplayFault}
use Rattle.pddl_valid.specs.declared.fault.ReplayFault.TheVariants as replays
use Rattle.pddl_valid.specs.SerialEnds.{IsReplayed, IsSerialEnd, end_of}
use Rattle.pddl_valid.proofs.NamedRuns.{runs_named, fails_named}

module _ {d : DomainValue} {p : ProblemValue} {steps : List LinkedStepValue} {course : ℕ → Step AtomValue} {goal : (AtomValue → Bool) → Bool} {s : AtomValue → Bool} {at : List (Option ℕ)} {gs : List (List ℕ)}
    (run : IsCourseOf d p steps course goal s at gs) (order : List ℕ) where
  abbrev task : TaskValue
  task = task_of d p

  end_named : (atoms : List AtomValue) (cost : ℕ) → RunsSerially course s order → IsRising atoms → is_listed atoms ≡ after_all course s (singles order) → cost ≡ cost_of_all course s (singles order)
      → IsSerialEnd task steps order atoms cost
  end_named atoms cost runs rising atoms_are cost_is = record {
    runs = subst (λ t. RunsSerially (named_steps task steps) t order) (start run) (runs_named (number_of task) course (named_steps task steps) (same run) s order runs);
    rising = rising;
    atoms_are =
        ap (by_name (number_of task)) atoms_are ∙ (end_alike (number_of task) course (named_steps task steps) (same run) s (singles order)
        ∙ ap (λ t. after_all (named_steps task steps) t (singles order)) (start run));
    cost_is = cost_is ∙ (cost_alike (number_of task) course (named_steps task steps) (same run) s (singles order) ∙ ap (λ t. cost_of_all (named_steps task steps) t (singles order)) (start run));
  }

  replayed : {A : Type 0} (r : Replayed A)
      → OnNotASerialisation r (IsSerialOrder gs order → ⊥)
      → OnSerialisation r (IsSerialOrder gs order)
      → OnStepFails r (FailsAt course s order)
      → OnEnded r (λ e. RunsSerially course s order)
      → OnEnded r (λ e. IsRising e.atoms.items)
      → OnEnded r (λ e. is_listed e.atoms.items ≡ after_all course s (singles order))
      → OnEnded r (λ e. e.cost ≡ cost_of_all course s (singles order))
      → IsReplayed task steps order (end_of r)
  replayed NotASerialisation none serial fails runs rising atoms cost = holds run (λ t hs. IsSerialOrder hs order → ⊥) none
  replayed (StepFails place) none serial fails runs rising atoms cost = (
    holds run (λ t hs. IsSerialOrder hs order) serial,
    subst (λ t. FailsAt (named_steps task steps) t order place) (start run) (fails_named (number_of task) course (named_steps task steps) (same run) s order place fails),
  )
  replayed (Ended e) none serial fails runs rising atoms cost = (holds run (λ t hs. IsSerialOrder hs order) serial, end_named e.atoms.items e.cost runs rising atoms cost)

  -- the end of a run for which memory held, or else its fault
  pub run_replayed : {A E : Type 0} (r : Result (Replayed A) E) (end : Result (End A) ReplayFault)
      → MatchResult r (λ x. end ≡ end_of x) (λ e. end ≡ Err replays.Memory)
      → IfOk r (λ x. OnNotASerialisation x (IsSerialOrder gs order → ⊥))
      → IfOk r (λ x. OnSerialisation x (IsSerialOrder gs order))
      → IfOk r (λ x. OnStepFails x (FailsAt course s order))
      → IfOk r (λ x. OnEnded x (λ e. RunsSerially course s order))
      → IfOk r (λ x. OnEnded x (λ e. IsRising e.atoms.items))
      → IfOk r (λ x. OnEnded x (λ e. is_listed e.atoms.items ≡ after_all course s (singles order)))
      → IfOk r (λ x. OnEnded x (λ e. e.cost ≡ cost_of_all course s (singles order)))
      → IsReplayed task steps order end
  run_replayed (Ok x) end is none serial fails runs rising atoms cost = subst (λ e. IsReplayed task steps order e) (sym is) (replayed x none serial fails runs rising atoms cost)
  run_replayed (Err e) end is none serial fails runs rising atoms cost = subst (λ e. IsReplayed task steps order e) (sym is) tt
