-- What is answered for a list of step numbers that is executed. Own.
use Rattle.std.specs.Prelude.{◌≡◌, ℕ, List, Result, Ok, Err}
use Rattle.pddl_task.specs.Tasks.{TaskValue}
use Rattle.pddl_state.specs.Atoms.{AtomValue}
use Rattle.pddl_state.specs.AtomSets.{IsRising, is_listed}
use Rattle.pddl_happenings.specs.Accepted.{after_all, cost_of_all}
use Rattle.pddl_happenings.specs.Happenings.{singles}
use Rattle.pddl_happenings.specs.NamedSteps.{by_name}
use Rattle.pddl_happenings.specs.Serialisations.{IsSerialOrder, RunsSerially, FailsAt}
use Rattle.pddl_linked_plan.specs.LinkedSteps.{LinkedStepValue}
use Rattle.pddl_plan_steps.specs.NumberedSteps.{number_of}
use Rattle.pddl_plan_steps.specs.PlanSteps.{named_steps, initial_state}
use Rattle.pddl_plan_steps.specs.AcceptedPlans.{OfHappenings}
use Rattle.pddl_serial.specs.declared.replaying.End.{End}
use Rattle.pddl_serial.specs.declared.replaying.Replayed.{Replayed}
use Rattle.pddl_serial.specs.declared.replaying.Replayed.TheVariants.{NotASerialisation, StepFails, Ended}
use Rattle.pddl_valid.specs.declared.fault.ReplayFault.{ReplayFault}
use Rattle.pddl_valid.specs.declared.fault.ReplayFault.TheVariants as replays

-- the list is a serialisation of the plan's happenings
abbrev pub IsSerialOrderOf : List LinkedStepValue → List ℕ → Type 0
IsSerialOrderOf steps order = OfHappenings steps (λ gs. IsSerialOrder gs order)

-- it is none
abbrev pub IsNoSerialOrderOf : List LinkedStepValue → List ℕ → Type 0
IsNoSerialOrderOf steps order = OfHappenings steps (λ gs. IsSerialOrder gs order → ⊥)

-- The list's own serial run exists; the atoms are those of its last state, each once and rising, and the cost is the sum of its costs.
pub record IsSerialEnd (task : TaskValue) (steps : List LinkedStepValue) (order : List ℕ) (atoms : List AtomValue) (cost : ℕ) : Type 0 where
  pub runs : RunsSerially (named_steps task steps) (initial_state task) order
  pub rising : IsRising atoms
  pub atoms_are : by_name (number_of task) (is_listed atoms) ≡ after_all (named_steps task steps) (initial_state task) (singles order)
  pub cost_is : cost ≡ cost_of_all (named_steps task steps) (initial_state task) (singles order)

-- What is answered: that the list is no serialisation; that it is one, and the first place whose step's precondition is false in the
-- state that the steps before it give, each alone; or that it is one, and its end.
abbrev pub IsReplayed : {A : Type 0} → TaskValue → List LinkedStepValue → List ℕ → Result (End A) ReplayFault → Type 0
IsReplayed task steps order (Err replays.Memory) = Unit {0}
IsReplayed task steps order (Err replays.NotASerialisation) = IsNoSerialOrderOf steps order
IsReplayed task steps order (Err (replays.StepFails place)) = IsSerialOrderOf steps order × FailsAt (named_steps task steps) (initial_state task) order place
IsReplayed task steps order (Ok e) = IsSerialOrderOf steps order × IsSerialEnd task steps order e.atoms.items e.cost

-- what is answered for what is said of a list
abbrev pub end_of : {A : Type 0} → Replayed A → Result (End A) ReplayFault
end_of NotASerialisation = Err replays.NotASerialisation
end_of (StepFails place) = Err (replays.StepFails place)
end_of (Ended e) = Ok e
