-- What stands in actions, initial states, goals and metrics, in the order of the canonical text, each with the variables that are
-- bound where it stands.
use Rattle.std.specs.Prelude.{ℕ, Bool, true, false, ◌&&◌, if◌then◌else◌, List, [], ◌∷◌, ◌++◌, map, length, ◌==◌, Option, Some, None, bytes_eq, codes}
use Rattle.std.specs.List.{flat_map}
use Rattle.pddl_formula.specs.Terms.{TermValue, AtomValue, name}
use Rattle.pddl_formula.specs.TypedLists.{TypedValue}
use Rattle.pddl_formula.specs.Formulas.{FormulaValue, FormulaValues, atom, equal, negation, implication, conjunction, disjunction, existential, universal, no_formulas, formula}
use Rattle.pddl_effect.specs.Effects as effects
use Rattle.pddl_effect.specs.Effects.{FunctionTermValue, AmountValue, number, function, EffectValue, EffectValues, conditional, addition, deletion, increase, no_effects, effect}
use Rattle.pddl_domain.specs.Actions.{ActionValue}
use Rattle.pddl_domain.specs.Domains.{DomainValue}
use Rattle.pddl_problem.specs.declared.problem.Direction.{Direction}
use Rattle.pddl_problem.specs.declared.problem.Direction.TheVariants.{Minimize, Maximize}
use Rattle.pddl_problem.specs.Inits.{GroundValue, InitValue, holds, fails, value, MetricValue}
use Rattle.pddl_problem.specs.Problems.{ProblemValue}
use Rattle.pddl_task.specs.Names.{Name}

-- the function that costs are added to
abbrev pub total_cost : Name
total_cost = codes "total-cost"

-- what can stand in a place
pub data Part : Type 0 where
  says : AtomValue → Part  -- an atom: in a formula, added, deleted, or in `:init`
  calls : FunctionTermValue → Part  -- a function term
  equates : TermValue → TermValue → Part
  binds : List TypedValue → Part  -- the variables of a quantifier, or an action's parameters
  counts : Name → ℕ → Part  -- a number in billionths, and the function that it is for

-- a part, and the variables that are bound where it stands, the innermost first
pub record Place : Type 0 where
  pub part : Part
  pub bound : List TypedValue

abbrev pub at : List TypedValue → Part → Place
at bound part = record { part = part; bound = bound }

-- the variables of a list are bound one after another
abbrev pub binding : List TypedValue → List TypedValue → List TypedValue
binding [] bound = bound
binding (x ∷ xs) bound = binding xs (x ∷ bound)

-- a formula, and formulas in turn
abbrev mutual
  pub places_in : FormulaValue → List TypedValue → List Place
  places_in (atom a) b = at b (says a) ∷ []
  places_in (equal t u) b = at b (equates t u) ∷ []
  places_in (negation f) b = places_in f b
  places_in (implication f g) b = places_in f b ++ places_in g b
  places_in (conjunction fs) b = places_in_all fs b
  places_in (disjunction fs) b = places_in_all fs b
  places_in (existential xs f) b = at b (binds xs) ∷ places_in f (binding xs b)
  places_in (universal xs f) b = at b (binds xs) ∷ places_in f (binding xs b)

  pub places_in_all : FormulaValues → List TypedValue → List Place
  places_in_all no_formulas b = []
  places_in_all (formula f fs) b = places_in f b ++ places_in_all fs b

-- a function without arguments
abbrev pub bare : Name → FunctionTermValue
bare f = record { function = f; terms = [] }

-- what an increase adds to the total cost
abbrev pub amount_part : AmountValue → Part
amount_part (number n) = counts total_cost n
amount_part (function f) = calls f

-- an effect, and effects in turn; an increase names the total cost and then its amount
abbrev mutual
  pub effect_places : EffectValue → List TypedValue → List Place
  effect_places (effects.conjunction es) b = effects_places es b
  effect_places (effects.universal xs e) b = at b (binds xs) ∷ effect_places e (binding xs b)
  effect_places (conditional f e) b = places_in f b ++ effect_places e b
  effect_places (addition a) b = at b (says a) ∷ []
  effect_places (deletion a) b = at b (says a) ∷ []
  effect_places (increase a) b = at b (calls (bare total_cost)) ∷ at b (amount_part a) ∷ []

  pub effects_places : EffectValues → List TypedValue → List Place
  effects_places no_effects b = []
  effects_places (effect e es) b = effect_places e b ++ effects_places es b

-- an action: its parameters, its precondition, its effect
abbrev pub action_places : ActionValue → List Place
action_places a = at [] (binds a.parameters) ∷ places_in a.precondition (binding a.parameters [])
    ++ effect_places a.effect (binding a.parameters [])

-- a ground atom, and a function of objects, as what names constants alone
abbrev pub ground_atom : GroundValue → AtomValue
ground_atom g = record { predicate = g.name; terms = map name g.objects }

abbrev pub ground_call : GroundValue → FunctionTermValue
ground_call g = record { function = g.name; terms = map name g.objects }

-- an item of `:init`; a literal that fails is looked at like one that holds
abbrev pub init_places : InitValue → List Place
init_places (holds f) = at [] (says (ground_atom f)) ∷ []
init_places (fails f) = at [] (says (ground_atom f)) ∷ []
init_places (value f n) = at [] (calls (ground_call f)) ∷ at [] (counts f.name n) ∷ []

abbrev pub is_minimize : Direction → Bool
is_minimize Minimize = true
is_minimize Maximize = false

-- the metric that is taken: `minimize` of `total-cost` without arguments
abbrev pub is_taken : MetricValue → Bool
is_taken m = is_minimize m.direction && (bytes_eq m.function.name total_cost && length m.function.objects == 0)

-- a metric; one that is not taken is a fault of its own, and nothing is looked for in it
abbrev pub metric_places : Option MetricValue → List Place
metric_places None = []
metric_places (Some m) = if is_taken m then (at [] (calls (bare total_cost)) ∷ []) else []

-- a domain: its actions
abbrev pub domain_places : DomainValue → List Place
domain_places d = flat_map action_places d.actions

-- a problem: its initial state, its goal, its metric
abbrev pub problem_places : ProblemValue → List Place
problem_places p = flat_map init_places p.init ++ places_in p.goal [] ++ metric_places p.metric
