-- A step without faults speaks of known atoms.
use Rattle.std.proofs.Common.{◌≡◌, suc, Bool, true, false, cond, List, [], ◌∷◌, arith, bytes_eq}
use Rattle.std.specs.Prelude.{Option, Some, find, Contains}
use Rattle.pddl_plan.specs.Plans.{StepValue}
use Rattle.pddl_domain.specs.Domains.{DomainValue}
use Rattle.pddl_problem.specs.Problems.{ProblemValue}
use Rattle.pddl_task.specs.Linked.{IsLinked}
use Rattle.pddl_task.specs.Tasks.{task_of}
use Rattle.pddl_task.proofs.KnownAtoms.{steps_are_known}
use Rattle.pddl_linked_plan.specs.StepFaults.{IsGoodStep}
use Rattle.pddl_linked_plan.specs.KnownSteps.{IsKnownStep}
use Rattle.pddl_linked_plan.proofs.GoodSteps.{faultless_of}

at_either : {X : Type 0} (b : Bool) (y : X) (xs : List X) (found : Option X) (x : X) → cond b (Some y) found ≡ Some x → (found ≡ Some x → Contains xs x) → Contains (y ∷ xs) x
at_either true y xs found x is later = (0, omega arith, cc)
at_either false y xs found x is later = let c = later is in (suc c.0, omega (arith, c.1), c.2)

-- what is found is an element
found_there : {X : Type 0} (test : X → Bool) (xs : List X) (x : X) → find test xs ≡ Some x → Contains xs x
found_there test [] x h = cc
found_there test (y ∷ xs) x h = at_either (test y) y xs (find test xs) x h (found_there test xs x)

pub step_is_known : (d : DomainValue) (p : ProblemValue) → IsLinked d p → (s : StepValue) → IsGoodStep (task_of d p) s → IsKnownStep (task_of d p) s
step_is_known d p linked s good =
    let f = faultless_of (task_of d p) s good in
    let known = steps_are_known d p linked f.action (found_there (λ b. bytes_eq s.action b.name) (task_of d p).actions f.action f.named) s.objects f.arity f.known in
    (f.action, f.named, known.0, known.1)
