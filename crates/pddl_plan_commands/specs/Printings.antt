-- What commands print of an accepted plan. Own.
use Rattle.std.specs.Prelude.{◌≡◌, ℕ, List, length}
use Rattle.pddl_plan.specs.Plans.{PlanValue}
use Rattle.pddl_task.specs.Tasks.{TaskValue}
use Rattle.pddl_meaning.specs.Worlds.{Atoms}
use Rattle.pddl_linked_plan.specs.LinkedSteps.{LinkedStepValue}
use Rattle.pddl_layout.specs.PlanLayout.{plan_text}
use Rattle.pddl_serial.specs.declared.turns.Order.{Order}
use Rattle.pddl_serial.specs.Orders.{in_order}
use Rattle.pddl_serial.specs.Cuts.{cut_in_order}
use Rattle.pddl_serial_plans.specs.NewPlans.{IsSerialPlan, IsSplitPlan}
use Rattle.pddl_plan_lines.specs.PlanLines.{valid_line}

-- What is printed of a task and the steps of a plan, its happenings, its end and its cost.
abbrev pub Printing : Type 1
Printing = TaskValue → List LinkedStepValue → List (List ℕ) → Atoms → ℕ → List ℕ → Type 0

-- `plan` prints how many steps and happenings there are, and what they cost.
abbrev pub IsVerdictLine : Printing
IsVerdictLine task steps happenings end cost printed = printed ≡ valid_line (length steps) (length happenings) cost

-- `serial` prints the canonical text of the plain plan of the happenings in turn, the steps of each in an order: a plan that is linked, and accepted
-- with the same end and cost.
abbrev pub IsSerialText : Order → Printing
IsSerialText order task steps happenings end cost printed =
    (plan : PlanValue) × IsSerialPlan task steps (in_order order happenings) end cost plan × (printed ≡ plan_text plan)

-- `serial --groups` prints the canonical text of the timed plan of the groups of so many steps, the last of a happening perhaps smaller, into which
-- the happenings are cut, the steps of each in an order: a plan that is linked, whose happenings are the groups, and accepted with the same end and cost.
abbrev pub IsSplitText : Order → ℕ → Printing
IsSplitText order size task steps happenings end cost printed =
    (plan : PlanValue) × IsSplitPlan task steps (cut_in_order size order happenings) end cost plan × (printed ≡ plan_text plan)
