-- A plan's steps by numbers: what is left of a plan once it is linked.
use Rattle.std.specs.Prelude.{◌≡◌, ℕ, List, map, Option, Some, None}
use Rattle.pddl_plan.specs.Plans.{StepValue, TimedValue, PlanValue, plain, timed}
use Rattle.pddl_task.specs.Names.{number_in}
use Rattle.pddl_task.specs.Tasks.{TaskValue, object_names}
use Rattle.pddl_linked_plan.specs.StepFaults.{action_names, IsLinkedPlan}

-- a step: the number of its action in the domain's order, those of its objects in the task's, and its moment in billionths, of which
-- a step of a plain plan has none
pub record LinkedStepValue : Type 0 where
  pub action : ℕ
  pub objects : List ℕ
  pub moment : Option ℕ

abbrev pub linked_step : TaskValue → Option ℕ → StepValue → LinkedStepValue
linked_step task moment s = record {
  action = number_in (action_names task) s.action;
  objects = map (number_in (object_names task)) s.objects;
  moment = moment;
}

abbrev pub linked_plain : TaskValue → StepValue → LinkedStepValue
linked_plain task s = linked_step task None s

abbrev pub linked_timed : TaskValue → TimedValue → LinkedStepValue
linked_timed task s = linked_step task (Some s.moment) s.step

-- the steps of a plan, in file order
abbrev pub linked_steps : TaskValue → PlanValue → List LinkedStepValue
linked_steps task (plain steps) = map (linked_plain task) steps
linked_steps task (timed steps) = map (linked_timed task) steps

-- steps that are linked to a task: those of some plan that is
pub record AreLinkedSteps (task : TaskValue) (steps : List LinkedStepValue) : Type 0 where
  pub plan : PlanValue
  pub linked : IsLinkedPlan task plan
  pub steps_are : steps ≡ linked_steps task plan
