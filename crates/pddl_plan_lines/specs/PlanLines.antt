-- The lines that `plan` prints. Own. Happenings and steps are numbered from 0 here, and from 1 as they are shown.
use Rattle.std.specs.Prelude.{ℕ, ◌+◌, List, ◌++◌, codes}
use Rattle.std.specs.Fmt.{decimal}
use Rattle.pddl_problem.specs.Inits.{GroundValue}
use Rattle.pddl_layout.specs.PlanLayout.{spaced}
use Rattle.pddl_plan_link.specs.declared.fault.StepFault.{StepFault}
use Rattle.pddl_plan_link.specs.declared.fault.StepFault.TheVariants as steps

-- ---- of a plan that is refused

-- a fault of a step by its number and its name, and the step
abbrev pub at_step : List ℕ → ℕ → List ℕ
at_step name step = name ++ (codes " at step " ++ decimal (step + 1))

-- the number and the name of a fault of a plan's linking, and the step where it stands
abbrev pub step_fault_name : StepFault → List ℕ
step_fault_name steps.Memory = codes "0 Memory"
step_fault_name (steps.UnknownAction step) = at_step (codes "40 UnknownAction") step
step_fault_name (steps.StepArity step) = at_step (codes "41 StepArity") step
step_fault_name (steps.UnknownObject step) = at_step (codes "42 UnknownObject") step
step_fault_name (steps.StepType step) = at_step (codes "43 StepType") step
step_fault_name (steps.CostUndefined step) = at_step (codes "44 CostUndefined") step
step_fault_name steps.PlanTooLong = codes "45 PlanTooLong"
step_fault_name (steps.StepTooLarge step) = at_step (codes "46 StepTooLarge") step

-- ---- of a plan that is valid

-- how many steps and happenings it has, and what they cost
abbrev pub valid_line : ℕ → ℕ → ℕ → List ℕ
valid_line steps happenings cost =
    codes "valid: " ++ (decimal steps ++ (codes " steps in " ++ (decimal happenings ++ (codes " happenings, total-cost " ++ (decimal cost ++ codes "\n")))))

-- ---- of a plan that is invalid

-- a step of a happening has a false precondition
abbrev pub unready_line : ℕ → ℕ → List ℕ
unready_line happening step =
    codes "invalid: happening " ++ (decimal (happening + 1) ++ (codes ", step " ++ (decimal (step + 1) ++ codes ": precondition is false\n")))

-- a ground atom: the names of its predicate and its objects, in parentheses with one space between
abbrev pub atom_text : GroundValue → List ℕ
atom_text atom = codes "(" ++ (atom.name ++ (spaced atom.objects ++ codes ")"))

-- two steps of a happening interfere, up to the atom on which they do
abbrev pub clash_words : ℕ → ℕ → ℕ → List ℕ
clash_words happening first second =
    codes "invalid: happening " ++ (decimal (happening + 1) ++ (codes ", steps " ++ (decimal (first + 1) ++ (codes " and " ++ (decimal (second + 1) ++ codes " interfere on ")))))

abbrev pub clash_line : ℕ → ℕ → ℕ → GroundValue → List ℕ
clash_line happening first second atom = clash_words happening first second ++ (atom_text atom ++ codes "\n")

-- the goal is false at the end
abbrev pub goal_line : List ℕ
goal_line = codes "invalid: goal is false\n"
