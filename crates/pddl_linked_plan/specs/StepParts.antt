-- Steps as they are held: one list of the objects of all of them, and for each its part of it.
use Rattle.std.specs.Prelude.{◌≤◌, ℕ, List, slice_range}
use Rattle.std.specs.List.{AllByRecursion}
use Rattle.pddl_linked_plan.specs.declared.steps.LinkedStep.{LinkedStep}
use Rattle.pddl_linked_plan.specs.declared.steps.StepPart.{StepPart}
use Rattle.pddl_linked_plan.specs.LinkedSteps.{LinkedStepValue}

-- a step that is lent
abbrev pub lent_step : LinkedStep → LinkedStepValue
lent_step s = record { action = s.action; objects = s.objects.now; moment = s.moment }

-- a step by its part of all objects
abbrev pub step_in : List ℕ → StepPart → LinkedStepValue
step_in objects p = record { action = p.action; objects = slice_range objects p.start p.end; moment = p.moment }

-- the part is one of a list of this length
pub record IsWithin (len : ℕ) (p : StepPart) : Type 0 where
  pub rises : p.start ≤ p.end
  pub ends : p.end ≤ len

abbrev pub AreWithin : ℕ → List StepPart → Type 0
AreWithin len ps = AllByRecursion (IsWithin len) ps
