-- The faults of a plan's linking, 40 to 46 (own). A step is known by its number in file order, from 0.
use Rattle.std.specs.Prelude.{◌≡◌, ◌≤◌, ◌<◌, ℕ, Bool, false, not, ◌&&◌, ◌||◌, ◌==◌, nat_lt, cond, List, [], ◌∷◌, ◌++◌, map, length, find, Option, Some, None, is_some, bytes_eq}
use Rattle.std.specs.List.{list_any, AllByRecursion}
use Rattle.std.specs.Option.{option_map_or}
use Rattle.pddl_plan.specs.Plans.{StepValue, PlanValue, steps_of}
use Rattle.pddl_formula.specs.Terms.{name}
use Rattle.pddl_formula.specs.TypedLists.{TypedValue}
use Rattle.pddl_effect.specs.Effects as effects
use Rattle.pddl_effect.specs.Effects.{AmountValue, number, function, EffectValue, EffectValues, conditional, addition, deletion, increase, no_effects, effect}
use Rattle.pddl_domain.specs.Declarations.{TypeValue}
use Rattle.pddl_domain.specs.Actions.{ActionValue}
use Rattle.pddl_problem.specs.Inits.{GroundValue}
use Rattle.pddl_task.specs.Names.{Name, is_in}
use Rattle.pddl_task.specs.Types.{pairs}
use Rattle.pddl_task.specs.Settings.{Setting}
use Rattle.pddl_task.specs.Faults.{some_misfit}
use Rattle.pddl_task.specs.GroundSize.{largest_size, action_size}
use Rattle.pddl_task.specs.Tasks.{TaskValue, object_names, fitting_names, cost_of, task_count}
use Rattle.pddl_task.specs.Valuations.{Valuation, giving, grounded_call, some_valuation}

-- ---- what a step names

abbrev pub action_name : ActionValue → Name
action_name a = a.name

-- the names of a task's actions, in order
abbrev pub action_names : TaskValue → List Name
action_names task = map action_name task.actions

-- the action of a name
abbrev pub action_named : TaskValue → Name → Option ActionValue
action_named task n = find (λ a. bytes_eq n a.name) task.actions

-- the step's action is known, and passes a test
abbrev pub action_passes : TaskValue → StepValue → (ActionValue → Bool) → Bool
action_passes task s test = option_map_or test (action_named task s.action) false

-- ---- 40 UnknownAction: no action has the step's name

abbrev pub unknown_action : TaskValue → StepValue → Bool
unknown_action task s = not (is_in (action_names task) s.action)

-- ---- 41 StepArity: another number of objects than the action has parameters

abbrev pub has_arity : StepValue → ActionValue → Bool
has_arity s a = length s.objects == length a.parameters

abbrev pub other_arity : TaskValue → StepValue → Bool
other_arity task s = action_passes task s (λ a. not (has_arity s a))

-- ---- 42 UnknownObject: a name that is no object of the task

abbrev pub unknown_object : TaskValue → StepValue → Bool
unknown_object task s = list_any (λ o. not (is_in (object_names task) o)) s.objects

-- ---- 43 StepType: an object that does not fit its parameter; an unknown one has no type

-- where a step's objects stand: objects may be named, and nothing else
abbrev pub naming : List TypeValue → List TypedValue → Setting
naming types objects = record { pairs = pairs types; predicates = []; functions = []; objects = objects }

abbrev pub unfit_object : TaskValue → StepValue → Bool
unfit_object task s = action_passes task s (λ a. some_misfit (naming task.types task.objects) [] (map name s.objects) a.parameters)

-- ---- 46 StepTooLarge: the step's ground size is over 1,000,000

abbrev pub is_large : TaskValue → ActionValue → Bool
is_large task a = nat_lt largest_size (action_size (task_count task) a)

abbrev pub too_large : TaskValue → StepValue → Bool
too_large task s = action_passes task s (is_large task)

-- ---- 44 CostUndefined: the function term of one of its increases has no value in `:init`; looked for where 46 does not stand

-- Some function of objects that an increase of an effect adds the cost of passes a test, under some valuation of the quantifiers
-- around it, whether it fires or not.
abbrev pub some_amount : (GroundValue → Bool) → AmountValue → Valuation → Bool
some_amount test (number n) v = false
some_amount test (function f) v = test (grounded_call v f)

abbrev mutual
  pub some_increase : (List Name → List Name) → EffectValue → (GroundValue → Bool) → Valuation → Bool
  some_increase fit (effects.conjunction es) test v = some_increase_in fit es test v
  some_increase fit (effects.universal xs e) test v = some_valuation fit xs (some_increase fit e test) v
  some_increase fit (conditional f e) test v = some_increase fit e test v
  some_increase fit (addition a) test v = false
  some_increase fit (deletion a) test v = false
  some_increase fit (increase a) test v = some_amount test a v

  pub some_increase_in : (List Name → List Name) → EffectValues → (GroundValue → Bool) → Valuation → Bool
  some_increase_in fit no_effects test v = false
  some_increase_in fit (effect e es) test v = some_increase fit e test v || some_increase_in fit es test v

-- `:init` gives a function of objects no value
abbrev pub is_costless : TaskValue → GroundValue → Bool
is_costless task g = not (is_some (cost_of task g))

-- as many objects as parameters, and each of the task: what the action says of its parameters is then said of objects
abbrev pub is_applied : TaskValue → StepValue → ActionValue → Bool
is_applied task s a = has_arity s a && not (unknown_object task s)

-- a term of an increase, with the step's objects for the parameters, has no value
abbrev pub some_costless : TaskValue → StepValue → ActionValue → Bool
some_costless task s a = some_increase (fitting_names task) a.effect (is_costless task) (giving a.parameters s.objects [])

abbrev pub cost_undefined : TaskValue → StepValue → Bool
cost_undefined task s = action_passes task s (λ a. is_applied task s a && (not (is_large task a) && some_costless task s a))

-- ---- a step's faults

abbrev pub number_if : Bool → ℕ → List ℕ
number_if stands n = cond stands (n ∷ []) []

-- the numbers of those that stand, rising
abbrev pub step_faults : TaskValue → StepValue → List ℕ
step_faults task s =
    number_if (unknown_action task s) 40 ++ number_if (other_arity task s) 41 ++ number_if (unknown_object task s) 42
    ++ number_if (unfit_object task s) 43 ++ number_if (cost_undefined task s) 44 ++ number_if (too_large task s) 46

-- none stands
abbrev pub IsGoodStep : TaskValue → StepValue → Type 0
IsGoodStep task s = step_faults task s ≡ []

-- ---- a plan's faults

-- the most steps that a plan may have
abbrev pub most_steps : ℕ
most_steps = 1000000

-- a plan is linked where it has at most 1,000,000 steps and none of them has a fault
pub record IsLinkedPlan (task : TaskValue) (plan : PlanValue) : Type 0 where
  pub short : length (steps_of plan) ≤ most_steps
  pub good : AllByRecursion (IsGoodStep task) (steps_of plan)

-- the first step with a fault, and the lowest number of its faults
pub record IsFirstFault (task : TaskValue) (steps : List StepValue) (n place : ℕ) : Type 0 where
  pub before : List StepValue
  pub step : StepValue
  pub after : List StepValue
  pub others : List ℕ
  pub steps_are : steps ≡ before ++ step ∷ after
  pub place_is : length before ≡ place
  pub good : AllByRecursion (IsGoodStep task) before
  pub lowest : step_faults task step ≡ n ∷ others

-- what is answered where a plan is not linked: 45 PlanTooLong, for over 1,000,000 steps, with no step, or the first faulty step
-- with its lowest number
abbrev pub IsPlanFault : TaskValue → PlanValue → ℕ → Option ℕ → Type 0
IsPlanFault task plan n None = (n ≡ 45) × (most_steps < length (steps_of plan))
IsPlanFault task plan n (Some place) = (length (steps_of plan) ≤ most_steps) × IsFirstFault task (steps_of plan) n place
