-- Worked examples, computed from the definitions: the faults of a step, which of a plan is answered, and steps by numbers.
use Rattle.std.proofs.Common.{◌≡◌, List, [], ◌∷◌, refl, codes, arith}
use Rattle.std.specs.Prelude.{Some}
use Rattle.pddl_formula.specs.Terms.{variable}
use Rattle.pddl_formula.specs.TypedLists.{TypedValue}
use Rattle.pddl_formula.specs.Formulas.{conjunction, no_formulas, universal}
use Rattle.pddl_effect.specs.Effects as effects
use Rattle.pddl_effect.specs.Effects.{increase, number, function, effects_of}
use Rattle.pddl_domain.specs.Declarations.{TypeValue}
use Rattle.pddl_domain.specs.Actions.{ActionValue}
use Rattle.pddl_plan.specs.Plans.{StepValue, plain, timed}
use Rattle.pddl_task.specs.Names.{Name}
use Rattle.pddl_task.specs.Tasks.{TaskValue}
use Rattle.pddl_linked_plan.specs.StepFaults.{step_faults, IsPlanFault}
use Rattle.pddl_linked_plan.specs.LinkedSteps.{linked_steps}

abbrev of_type : Name → Name → TypedValue
of_type n type = record { item = n; of = type ∷ [] }

abbrev child : Name → Name → TypeValue
child type parent = record { item = type; of = parent }

-- a drive between two places, whose cost is the road's length, and a wait, whose cost is a number
abbrev drive : ActionValue
drive = record {
  name = codes "drive";
  parameters = of_type (codes "from") (codes "place") ∷ of_type (codes "to") (codes "place") ∷ [];
  precondition = conjunction no_formulas;
  effect = effects.conjunction (effects_of (
      increase (number 0) ∷ increase (function (record { function = codes "length"; terms = variable (codes "from") ∷ variable (codes "to") ∷ [] })) ∷ []));
}

abbrev wait : ActionValue
wait = record { name = codes "wait"; parameters = []; precondition = conjunction no_formulas; effect = increase (number 1000000000) }

-- a test of each thirteen objects, that is of over a million
abbrev any : TypedValue
any = of_type (codes "x") (codes "object")

abbrev survey : ActionValue
survey = record {
  name = codes "survey";
  parameters = [];
  precondition = universal (any ∷ any ∷ any ∷ any ∷ any ∷ any ∷ any ∷ any ∷ any ∷ any ∷ any ∷ any ∷ any ∷ []) (conjunction no_formulas);
  effect = effects.conjunction (effects_of []);
}

abbrev task : TaskValue
task = record {
  objects = of_type (codes "a") (codes "place") ∷ of_type (codes "b") (codes "place") ∷ of_type (codes "t") (codes "truck") ∷ [];
  types = child (codes "place") (codes "object") ∷ child (codes "truck") (codes "object") ∷ [];
  predicates = [];
  functions = record { name = codes "length"; parameters = of_type (codes "from") (codes "place") ∷ of_type (codes "to") (codes "place") ∷ [] } ∷ [];
  actions = drive ∷ wait ∷ survey ∷ [];
  costs = (record { name = codes "length"; objects = codes "a" ∷ codes "b" ∷ [] }, 3) ∷ [];
  initial = [];
  goal = conjunction no_formulas;
}

abbrev step : Name → List Name → StepValue
step action objects = record { action = action; objects = objects }

abbrev there : StepValue
there = step (codes "drive") (codes "a" ∷ codes "b" ∷ [])

abbrev back : StepValue
back = step (codes "drive") (codes "b" ∷ codes "a" ∷ [])

-- ---- the faults of a step

good : step_faults task there ≡ []
good = refl

good_without_objects : step_faults task (step (codes "wait") []) ≡ []
good_without_objects = refl

unknown_action : step_faults task (step (codes "fly") []) ≡ 40 ∷ []
unknown_action = refl

unknown_action_and_object : step_faults task (step (codes "fly") (codes "c" ∷ [])) ≡ 40 ∷ 42 ∷ []
unknown_action_and_object = refl

other_arity : step_faults task (step (codes "drive") (codes "a" ∷ [])) ≡ 41 ∷ []
other_arity = refl

unknown_object : step_faults task (step (codes "drive") (codes "a" ∷ codes "c" ∷ [])) ≡ 42 ∷ []
unknown_object = refl

misfit_and_no_cost : step_faults task (step (codes "drive") (codes "t" ∷ codes "b" ∷ [])) ≡ 43 ∷ 44 ∷ []
misfit_and_no_cost = refl

no_cost : step_faults task back ≡ 44 ∷ []
no_cost = refl

too_large : step_faults task (step (codes "survey") []) ≡ 46 ∷ []
too_large = refl

-- ---- plans

second_is_first : IsPlanFault task (plain (there ∷ back ∷ step (codes "fly") [] ∷ [])) 44 (Some 1)
second_is_first = (
  omega arith,
  record {
    before = there ∷ [];
    step = back;
    after = step (codes "fly") [] ∷ [];
    others = [];
    steps_are = refl;
    place_is = refl;
    good = (refl, tt);
    lowest = refl;
  },
)

by_numbers : linked_steps task (timed (record { moment = 5; step = there } ∷ record { moment = 0; step = step (codes "wait") [] } ∷ []))
    ≡ record { action = 0; objects = 0 ∷ 1 ∷ []; moment = Some 5 } ∷ record { action = 1; objects = []; moment = Some 0 } ∷ []
by_numbers = refl
