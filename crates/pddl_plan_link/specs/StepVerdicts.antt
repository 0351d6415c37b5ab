-- What is answered where a plan, or a step of it, is linked.
use Rattle.std.specs.Prelude.{◌≡◌, ℕ, List, [], ◌∷◌, Option, Some, None, Result, MatchResult, IfSome}
use Rattle.pddl_plan.specs.Plans.{PlanValue}
use Rattle.pddl_task.specs.Tasks.{TaskValue}
use Rattle.pddl_linked_plan.specs.StepFaults.{IsLinkedPlan, IsPlanFault}
use Rattle.pddl_plan_link.specs.declared.fault.StepFault.{StepFault}
use Rattle.pddl_plan_link.specs.declared.fault.StepFault.TheVariants as link

-- a fault's number, and that of its step where one is named
abbrev pub plan_fault_of : StepFault → Option (ℕ × Option ℕ)
plan_fault_of link.Memory = None
plan_fault_of (link.UnknownAction k) = Some (40, Some k)
plan_fault_of (link.StepArity k) = Some (41, Some k)
plan_fault_of (link.UnknownObject k) = Some (42, Some k)
plan_fault_of (link.StepType k) = Some (43, Some k)
plan_fault_of (link.CostUndefined k) = Some (44, Some k)
plan_fault_of link.PlanTooLong = Some (45, None)
plan_fault_of (link.StepTooLarge k) = Some (46, Some k)

-- of these faults of the step of a number none stands, or the lowest is answered
abbrev pub StepVerdict : {T : Type 0} → List ℕ → ℕ → Result T StepFault → Type 0
StepVerdict faults place r = MatchResult r (λ _. faults ≡ []) (λ e. IfSome (plan_fault_of e) (λ f. (f.1 ≡ Some place) × ((others : List ℕ) × (faults ≡ f.0 ∷ others))))

-- a plan is linked, or what is wrong with it is answered
abbrev pub PlanVerdict : {T : Type 0} → TaskValue → PlanValue → Result T StepFault → Type 0
PlanVerdict task plan r = MatchResult r (λ _. IsLinkedPlan task plan) (λ e. IfSome (plan_fault_of e) (λ f. IsPlanFault task plan f.0 f.1))
