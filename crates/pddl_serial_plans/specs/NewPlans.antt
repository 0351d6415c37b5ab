-- The plans of serialisations and splits of accepted plans. Own.
use Rattle.std.specs.Prelude.{◌≡◌, ℕ, ◌*◌, List, map, length, Option, Some}
use Rattle.std.specs.List.{concat}
use Rattle.pddl_plan.specs.Plans.{PlanValue}
use Rattle.pddl_task.specs.Tasks.{TaskValue}
use Rattle.pddl_happenings.specs.Happenings.{numbers_to}
use Rattle.pddl_happenings.specs.Splits.{numbered, split_moments}
use Rattle.pddl_meaning.specs.Worlds.{Atoms}
use Rattle.pddl_linked_plan.specs.LinkedSteps.{LinkedStepValue, linked_steps, AreLinkedSteps}
use Rattle.pddl_linked_plan.specs.StepFaults.{IsLinkedPlan}
use Rattle.pddl_plan_steps.specs.AcceptedPlans.{AreHappeningsOf, IsAcceptedPlan}
use Rattle.pddl_serial_plans.specs.NewSteps.{picked, at_moments, plain_plan, timed_plan}

-- What is accepted, as its happenings, its end and its cost, is that of a task and of steps.
pub record IsAcceptedOf (task : TaskValue) (steps : List LinkedStepValue) (at : List (Option ℕ)) (gs : List (List ℕ)) (end : Atoms) (cost : ℕ) : Type 0 where
  pub linked : AreLinkedSteps task steps
  pub happenings : AreHappeningsOf steps at gs
  pub accepted : IsAcceptedPlan task steps end cost

-- A plan is the plain one of steps in an order; it is linked, and accepted with an end and a cost.
pub record IsSerialPlan (task : TaskValue) (steps : List LinkedStepValue) (order : List ℕ) (end : Atoms) (cost : ℕ) (plan : PlanValue) : Type 0 where
  pub plan_is : plan ≡ plain_plan task (picked steps order)
  pub linked : IsLinkedPlan task plan
  pub accepted : IsAcceptedPlan task (linked_steps task plan) end cost

-- A plan is the timed one of groups of steps, the k-th group at the moment k, from 1; it is linked, its happenings are the groups in
-- turn, by the numbers of its own steps, and it is accepted with an end and a cost.
pub record IsSplitPlan (task : TaskValue) (steps : List LinkedStepValue) (gs : List (List ℕ)) (end : Atoms) (cost : ℕ) (plan : PlanValue) : Type 0 where
  pub plan_is : plan ≡ timed_plan task (at_moments (picked steps (concat gs)) (split_moments 1 gs))
  pub linked : IsLinkedPlan task plan
  pub happenings : AreHappeningsOf (linked_steps task plan) (map (λ k. Some (k * 1000000000)) (numbers_to 1 (length gs))) (numbered 0 gs)
  pub accepted : IsAcceptedPlan task (linked_steps task plan) end cost
