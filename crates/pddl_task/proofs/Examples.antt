-- Worked examples, computed from the definitions: which fault is answered, with which word, and ground sizes.
use Rattle.std.proofs.Common.{◌≡◌, ℕ, zero, suc, List, [], ◌∷◌, ◌++◌, map, refl, codes}
use Rattle.std.specs.Prelude.{Option, Some, None}
use Rattle.pddl_formula.specs.Terms.{TermValue, AtomValue, variable, name}
use Rattle.pddl_formula.specs.TypedLists.{TypedValue}
use Rattle.pddl_formula.specs.Formulas.{FormulaValue, atom, negation, conjunction, existential, universal, formulas_of}
use Rattle.pddl_effect.specs.Effects as effects
use Rattle.pddl_effect.specs.Effects.{EffectValue, addition, deletion, increase, conditional, number, function, effects_of}
use Rattle.pddl_domain.specs.Declarations.{TypeValue, Signature, FunctionValue}
use Rattle.pddl_domain.specs.Actions.{ActionValue}
use Rattle.pddl_domain.specs.Domains.{DomainValue}
use Rattle.pddl_problem.specs.declared.problem.Direction.TheVariants.{Minimize, Maximize}
use Rattle.pddl_problem.specs.Inits.{GroundValue, InitValue, MetricValue, holds, fails, value}
use Rattle.pddl_problem.specs.Problems.{ProblemValue}
use Rattle.pddl_task.specs.Names.{Name}
use Rattle.pddl_task.specs.Linked.{Fault, domain_faults, faults}
use Rattle.pddl_task.specs.Tasks.{task_of, task_count}
use Rattle.pddl_task.specs.GroundSize.{formula_size, action_size}

-- ---- what is answered

-- the lowest fault that stands, with its first word
abbrev first_word : ℕ → List Name → Option (ℕ × Name) → Option (ℕ × Name)
first_word n [] later = later
first_word n (w ∷ words) later = Some (n, w)

abbrev first_fault : List Fault → Option (ℕ × Name)
first_fault [] = None
first_fault (f ∷ fs) = first_word f.number f.words (first_fault fs)

abbrev of_domain : DomainValue → Option (ℕ × Name)
of_domain d = first_fault (domain_faults d)

abbrev of_pair : DomainValue → ProblemValue → Option (ℕ × Name)
of_pair d p = first_fault (faults d p)

-- ---- values in few words

abbrev typed : Name → Name → TypedValue
typed item type = record { item = item; of = type ∷ [] }

abbrev child : Name → Name → TypeValue
child type parent = record { item = type; of = parent }

abbrev declared : Name → List TypedValue → Signature
declared p xs = record { name = p; parameters = xs }

abbrev function_to : Name → List TypedValue → Name → FunctionValue
function_to f xs result = record { item = declared f xs; of = result ∷ [] }

abbrev costs : Name → List TypedValue → FunctionValue
costs f xs = function_to f xs (codes "number")

abbrev total : FunctionValue
total = costs (codes "total-cost") []

abbrev of_terms : Name → List TermValue → AtomValue
of_terms p ts = record { predicate = p; terms = ts }

abbrev of_names : Name → List Name → GroundValue
of_names n objects = record { name = n; objects = objects }

abbrev nothing : FormulaValue
nothing = conjunction (formulas_of [])

abbrev acts : List TypedValue → FormulaValue → EffectValue → ActionValue
acts parameters precondition effect = record { name = codes "n"; parameters = parameters; precondition = precondition; effect = effect }

abbrev a : Name
a = codes "a"

abbrev b : Name
b = codes "b"

abbrev c : Name
c = codes "c"

abbrev p : Name
p = codes "p"

abbrev q : Name
q = codes "q"

abbrev x : Name
x = codes "x"

abbrev object : Name
object = codes "object"

abbrev lamp : Name
lamp = codes "lamp"

abbrev bare : DomainValue
bare = record { name = codes "d"; requirements = []; types = []; constants = []; predicates = []; functions = []; actions = [] }

abbrev with_types : List TypeValue → DomainValue
with_types types = record bare { types = types }

abbrev with_predicates : List Signature → List ActionValue → DomainValue
with_predicates predicates actions = record bare { predicates = predicates; actions = actions }

abbrev with_functions : List FunctionValue → List ActionValue → DomainValue
with_functions functions actions = record bare { functions = functions; actions = actions }

-- ---- faults of a domain alone

type_twice : of_domain (with_types (child a object ∷ child a object ∷ [])) ≡ Some (21, a)
type_twice = refl

cycle_of_two : of_domain (with_types (child a b ∷ child b a ∷ [])) ≡ Some (22, a)
cycle_of_two = refl

cycle_through_object : of_domain (with_types (child object lamp ∷ [])) ≡ Some (22, object)
cycle_through_object = refl

cycle_behind_other_types : of_domain (with_types (child c a ∷ child a b ∷ child b a ∷ [])) ≡ Some (22, a)
cycle_behind_other_types = refl

cycle_before_two_types : of_domain (record bare { types = child a b ∷ child b a ∷ []; constants = record { item = c; of = a ∷ b ∷ [] } ∷ [] }) ≡ Some (22, a)
cycle_before_two_types = refl

parent_alone : of_domain (with_types (child a b ∷ [])) ≡ None
parent_alone = refl

object_under_object : of_domain (with_types (child object object ∷ child a object ∷ [])) ≡ None
object_under_object = refl

unknown_type : of_domain (with_predicates (declared p (typed x (codes "u") ∷ []) ∷ declared p [] ∷ []) []) ≡ Some (23, codes "u")
unknown_type = refl

predicate_twice : of_domain (with_predicates (declared p [] ∷ declared p [] ∷ []) (acts [] nothing (addition (of_terms q [])) ∷ [])) ≡ Some (24, p)
predicate_twice = refl

first_repetition : of_domain (with_predicates (declared p [] ∷ declared q [] ∷ declared q [] ∷ declared p [] ∷ []) []) ≡ Some (24, q)
first_repetition = refl

variable_twice : of_domain (with_predicates [] (acts [] (existential (typed x object ∷ typed x object ∷ []) nothing) (effects.conjunction (effects_of [])) ∷ [])) ≡ Some (24, x)
variable_twice = refl

declared_variable_twice : of_domain (with_predicates (declared p (typed x object ∷ typed x object ∷ []) ∷ []) []) ≡ None
declared_variable_twice = refl

two_types_for_parameter : of_domain (record bare { types = child a object ∷ child b object ∷ []; actions = acts (record { item = x; of = a ∷ b ∷ [] } ∷ []) nothing (effects.conjunction (effects_of [])) ∷ [] }) ≡ None
two_types_for_parameter = refl

two_types_for_constant : of_domain (record bare { types = child a object ∷ child b object ∷ []; constants = record { item = c; of = a ∷ b ∷ [] } ∷ [] }) ≡ Some (25, c)
two_types_for_constant = refl

unbound_variable : of_domain (with_predicates (declared p (typed x object ∷ []) ∷ [])
    (acts (typed b object ∷ []) nothing (effects.conjunction (effects_of (addition (of_terms p (variable b ∷ variable b ∷ [])) ∷ addition (of_terms p (variable c ∷ [])) ∷ []))) ∷ []))
    ≡ Some (26, c)
unbound_variable = refl

precondition_before_effect : of_domain (with_predicates [] (acts [] (atom (of_terms p [])) (addition (of_terms q [])) ∷ [])) ≡ Some (26, p)
precondition_before_effect = refl

cost_not_declared : of_domain (with_predicates [] (acts [] nothing (increase (number 0)) ∷ [])) ≡ Some (26, codes "total-cost")
cost_not_declared = refl

cost_of_terms : of_domain (with_functions (costs (codes "total-cost") (typed x object ∷ []) ∷ []) (acts [] nothing (increase (number 1000000000)) ∷ [])) ≡ Some (27, codes "total-cost")
cost_of_terms = refl

misfit : of_domain (record bare { types = child a object ∷ []; constants = typed c object ∷ []; predicates = declared p (typed x a ∷ []) ∷ []; actions = acts [] nothing (addition (of_terms p (name c ∷ []))) ∷ [] })
    ≡ Some (28, p)
misfit = refl

inner_variable_hides : of_domain (record bare { types = child a object ∷ []; predicates = declared p (typed x a ∷ []) ∷ []; actions = acts (typed x object ∷ []) (universal (typed x a ∷ []) (atom (of_terms p (variable x ∷ [])))) (effects.conjunction (effects_of [])) ∷ [] })
    ≡ None
inner_variable_hides = refl

cost_of_one_and_a_half : of_domain (with_functions (total ∷ []) (acts [] nothing (increase (number 1500000000)) ∷ [])) ≡ Some (30, codes "total-cost")
cost_of_one_and_a_half = refl

cost_of_five : of_domain (with_functions (total ∷ []) (acts [] nothing (increase (number 5000000000)) ∷ [])) ≡ None
cost_of_five = refl

object_fluent : of_domain (with_functions (function_to (codes "f") [] object ∷ []) []) ≡ Some (32, codes "f")
object_fluent = refl

cost_under_quantifier : of_domain (with_functions (total ∷ []) (acts [] nothing (effects.universal (typed x object ∷ []) (increase (number 1000000000))) ∷ [])) ≡ None
cost_under_quantifier = refl

-- ---- a domain and a problem

abbrev x_lamp : TypedValue
x_lamp = typed x lamp

abbrev of_x : Name → AtomValue
of_x predicate = of_terms predicate (variable x ∷ [])

abbrev on : Name
on = codes "on"

abbrev ok : Name
ok = codes "ok"

abbrev price : Name
price = codes "price"

abbrev dark : ActionValue
dark = record {
  name = codes "dark";
  parameters = [];
  precondition = existential (x_lamp ∷ []) (atom (of_x on));
  effect = effects.universal (x_lamp ∷ []) (conditional (atom (of_x on)) (deletion (of_x on)));
}

abbrev lamps : DomainValue
lamps = record {
  name = codes "lamps";
  requirements = [];
  types = child lamp object ∷ child (codes "big") lamp ∷ [];
  constants = [];
  predicates = declared on (x_lamp ∷ []) ∷ declared ok (x_lamp ∷ []) ∷ [];
  functions = total ∷ costs price (x_lamp ∷ []) ∷ [];
  actions =
      record {
        name = codes "light";
        parameters = x_lamp ∷ [];
        precondition = conjunction (formulas_of (negation (atom (of_x on)) ∷ atom (of_x ok) ∷ []));
        effect = effects.conjunction (effects_of (addition (of_x on) ∷ increase (function (record { function = price; terms = variable x ∷ [] })) ∷ []));
      }
      ∷ record { name = codes "check"; parameters = x_lamp ∷ []; precondition = nothing; effect = addition (of_x ok) }
      ∷ dark ∷ [];
}

abbrev two : ProblemValue
two = record {
  name = codes "two";
  domain = codes "lamps";
  requirements = [];
  objects = typed a lamp ∷ typed b (codes "big") ∷ [];
  init = holds (of_names ok (a ∷ [])) ∷ holds (of_names ok (b ∷ [])) ∷ value (of_names price (a ∷ [])) 3000000000 ∷ value (of_names price (b ∷ [])) 4000000000 ∷ [];
  goal = conjunction (formulas_of (atom (of_terms on (name a ∷ [])) ∷ atom (of_terms on (name b ∷ [])) ∷ []));
  metric = Some (record { direction = Minimize; function = of_names (codes "total-cost") [] });
}

abbrev two_and : InitValue → ProblemValue
two_and item = record two { init = two.init ++ item ∷ [] }

abbrev maximize : Option MetricValue
maximize = Some (record { direction = Maximize; function = of_names (codes "total-cost") [] })

linked : of_pair lamps two ≡ None
linked = refl

other_domain : of_pair lamps (record two { domain = lamp; metric = maximize }) ≡ Some (20, lamp)
other_domain = refl

object_of_two_types : of_pair lamps (record two { objects = two.objects ++ typed a (codes "big") ∷ [] }) ≡ Some (24, a)
object_of_two_types = refl

object_listed_again : of_pair lamps (record two { objects = two.objects ++ typed a lamp ∷ [] }) ≡ None
object_listed_again = refl

unknown_object : of_pair lamps (record two { goal = atom (of_terms on (name c ∷ [])) }) ≡ Some (26, c)
unknown_object = refl

-- an action names constants alone, also where the problem has such an object
object_in_action : of_pair (record lamps { actions = acts [] nothing (addition (of_terms ok (name a ∷ []))) ∷ [] }) two ≡ Some (26, a)
object_in_action = refl

constant_in_goal : of_pair (record lamps { constants = typed c lamp ∷ [] }) (record two { goal = atom (of_terms on (name c ∷ [])) }) ≡ None
constant_in_goal = refl

contradiction : of_pair lamps (two_and (fails (of_names ok (a ∷ [])))) ≡ Some (29, ok)
contradiction = refl

fraction_before_value : of_pair lamps (two_and (value (of_names price (a ∷ [])) 2500000000)) ≡ Some (30, price)
fraction_before_value = refl

two_values : of_pair lamps (two_and (value (of_names price (a ∷ [])) 5000000000)) ≡ Some (31, price)
two_values = refl

one_value_twice : of_pair lamps (two_and (value (of_names price (a ∷ [])) 3000000000)) ≡ None
one_value_twice = refl

cost_at_first : of_pair lamps (two_and (value (of_names (codes "total-cost") []) 2000000000)) ≡ Some (31, codes "total-cost")
cost_at_first = refl

no_cost_at_first : of_pair lamps (two_and (value (of_names (codes "total-cost") []) 0)) ≡ None
no_cost_at_first = refl

metric_maximize : of_pair lamps (record two { metric = maximize }) ≡ Some (33, [])
metric_maximize = refl

metric_of_another_function : of_pair lamps (record two { metric = Some (record { direction = Minimize; function = of_names price (a ∷ []) }) }) ≡ Some (33, [])
metric_of_another_function = refl

metric_not_declared : of_pair (record lamps { functions = costs price (x_lamp ∷ []) ∷ []; actions = [] }) two ≡ Some (26, codes "total-cost")
metric_not_declared = refl

failing_atom_not_declared : of_pair lamps (two_and (fails (of_names q []))) ≡ Some (26, q)
failing_atom_not_declared = refl

two_types_for_object : of_pair lamps (record two { objects = two.objects ++ record { item = c; of = lamp ∷ object ∷ [] } ∷ [] }) ≡ Some (25, c)
two_types_for_object = refl

cost_under_condition : of_pair (record lamps { actions = acts [] nothing (effects.conjunction (effects_of (conditional nothing (effects.conjunction (effects_of (increase (number 0) ∷ []))) ∷ []))) ∷ [] }) two ≡ None
cost_under_condition = refl

-- ---- ground sizes

-- its precondition has 1 + 2 * (1 + 1), its effect 1 + 2 * (1 + 3)
size_of_dark : action_size (task_count (task_of lamps two)) dark ≡ 14
size_of_dark = refl

-- one lamp, and nothing big
abbrev one_lamp : FormulaValue → ℕ
one_lamp = formula_size (task_count (task_of lamps (record two { objects = typed a lamp ∷ [] })))

abbrev x_big : TypedValue
x_big = typed x (codes "big")

abbrev y_lamp : TypedValue
y_lamp = typed (codes "y") lamp

none_fit_first : one_lamp (universal (x_big ∷ y_lamp ∷ []) (atom (of_terms on (variable (codes "y") ∷ [])))) ≡ 1
none_fit_first = refl

none_fit_last : one_lamp (universal (y_lamp ∷ x_big ∷ []) (atom (of_terms on (variable (codes "y") ∷ [])))) ≡ 2
none_fit_last = refl

no_variables : one_lamp (universal [] (atom (of_terms on (name a ∷ [])))) ≡ 2
no_variables = refl

-- Ten objects, and a goal at the limit: 4 quantifiers over five variables, 7 over four, 3 over three, 6 over two, 8 over one,
-- and atoms.
abbrev copies : ℕ → FormulaValue → List FormulaValue
copies zero f = []
copies (suc n) f = f ∷ copies n f

abbrev over : List Name → FormulaValue
over xs = universal (map (λ v. typed v object) xs) (atom (of_terms p (variable a ∷ [])))

abbrev e : Name
e = codes "e"

abbrev d : Name
d = codes "d"

abbrev quantified : List FormulaValue
quantified =
    copies 4 (over (a ∷ b ∷ c ∷ d ∷ e ∷ []))
    ++ copies 7 (over (a ∷ b ∷ c ∷ d ∷ []))
    ++ copies 3 (over (a ∷ b ∷ c ∷ []))
    ++ copies 6 (over (a ∷ b ∷ []))
    ++ copies 8 (over (a ∷ []))

abbrev tens : ℕ → ProblemValue
tens atoms = record {
  name = codes "tens";
  domain = codes "d";
  requirements = [];
  objects = map (λ digit. typed (codes "o" ++ digit ∷ []) object) (codes "0123456789");
  init = [];
  goal = conjunction (formulas_of (quantified ++ copies atoms (atom (of_terms p (name (codes "o0") ∷ [])))));
  metric = None;
}

abbrev of_tens : ℕ → ℕ
of_tens atoms = formula_size (task_count (task_of (with_predicates (declared p (typed x object ∷ []) ∷ []) []) (tens atoms))) (tens atoms).goal

at_the_limit : of_tens 11 ≡ 1000000
at_the_limit = refl

past_the_limit : of_tens 12 ≡ 1000001
past_the_limit = refl

goal_at_the_limit : of_pair (with_predicates (declared p (typed x object ∷ []) ∷ []) []) (tens 11) ≡ None
goal_at_the_limit = refl

goal_past_the_limit : of_pair (with_predicates (declared p (typed x object ∷ []) ∷ []) []) (tens 12) ≡ Some (35, [])
goal_past_the_limit = refl
