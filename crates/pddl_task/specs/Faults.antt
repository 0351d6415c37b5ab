-- The faults of linking, 20 to 33 and 35 (own). Each is the list of its words, one for each place where it stands, in the order of the
-- canonical text, the domain before the problem; it does not stand where the list is empty. A fault without a word (33, 35) has
-- the empty name there. A variable's word is its name without `?`.
use Rattle.std.specs.Prelude.{ℕ, Bool, false, not, ◌&&◌, ◌||◌, ◌==◌, ◌%◌, nat_lt, List, [], ◌∷◌, ◌++◌, map, filter, find, length, Option, Some, None, bytes_eq}
use Rattle.std.specs.List.{list_any, flat_map}
use Rattle.pddl_formula.specs.Terms.{TermValue, name, variable}
use Rattle.pddl_formula.specs.TypedLists.{TypedValue}
use Rattle.pddl_effect.specs.Effects as effects
use Rattle.pddl_domain.specs.Declarations.{TypeValue, Signature, number}
use Rattle.pddl_domain.specs.Actions.{ActionValue}
use Rattle.pddl_domain.specs.Domains.{DomainValue}
use Rattle.pddl_problem.specs.Inits.{GroundValue, InitValue, holds, fails, value, MetricValue}
use Rattle.pddl_problem.specs.Problems.{ProblemValue}
use Rattle.pddl_task.specs.Names.{Name, is_in, same_names, word_if, wrong_words, repeated, item_of, is_named}
use Rattle.pddl_task.specs.Types.{types_of, pairs, is_cyclic, fits}
use Rattle.pddl_task.specs.Places.{total_cost, Part, says, calls, equates, binds, counts, Place, action_places, domain_places, problem_places, is_taken}
use Rattle.pddl_task.specs.Settings.{symbol_of, parameters_of, function_signatures, Setting, in_problem}
use Rattle.pddl_task.specs.GroundSize.{largest_size, fitting_count, formula_size}

-- ---- 20 DomainName: the problem's `:domain` is not the domain's name. The word is the name in `:domain`

abbrev pub domain_names : DomainValue → ProblemValue → List Name
domain_names d p = word_if (not (bytes_eq p.domain d.name)) p.domain

-- ---- 21 TypeTwice: a name is declared twice in `:types`, with the same or another parent. The word is the type

abbrev pub types_twice : DomainValue → List Name
types_twice d = repeated [] (map item_of d.types)

-- ---- 22 TypeCycle: a type is above itself, `object` under `object` aside. The word is the first type in `:types` that is

abbrev pub first_alone : List Name → List Name
first_alone [] = []
first_alone (n ∷ ns) = n ∷ []

abbrev pub type_cycles : DomainValue → List Name
type_cycles d = first_alone (filter (is_cyclic (pairs d.types)) (map item_of d.types))

-- ---- 23 UnknownType: a primitive type of a constant, an object, or a variable of a predicate, a function, an action or a
-- quantifier is no type of the domain. The word is the type

abbrev pub variables_of : Part → List TypedValue
variables_of (binds xs) = xs
variables_of _ = []

abbrev pub variables_at : Place → List TypedValue
variables_at pl = variables_of pl.part

abbrev pub primitives_of : TypedValue → List Name
primitives_of x = x.of

-- of typed names and variables, the primitive types that are unknown
abbrev pub unknown_types : DomainValue → List TypedValue → List Name
unknown_types d xs = filter (λ t. not (is_in (types_of d.types) t)) (flat_map primitives_of xs)

abbrev pub domain_typed : DomainValue → List TypedValue
domain_typed d = d.constants ++ flat_map parameters_of d.predicates ++ flat_map parameters_of (function_signatures d)
    ++ flat_map variables_at (domain_places d)

abbrev pub problem_typed : ProblemValue → List TypedValue
problem_typed p = p.objects ++ flat_map variables_at (problem_places p)

-- ---- 24 NameTwice: two predicates, two functions or two actions of one name; one variable twice in the parameters of an action or
-- in the list of one quantifier; a constant or an object listed with two different types. The word is the name

-- one of these has the name, and another type
abbrev pub has_other_type : List TypedValue → TypedValue → Bool
has_other_type before x = list_any (λ y. is_named y.item x && not (same_names y.of x.of)) before

-- of names with types behind others, each that stands before it with another type
abbrev pub retyped : List TypedValue → List TypedValue → List Name
retyped = wrong_words has_other_type item_of

abbrev pub repeated_at : Place → List Name
repeated_at pl = repeated [] (map item_of (variables_at pl))

-- of actions that follow those of names already seen: the name, where it is seen, and the variables that stand twice
abbrev pub repeated_in_actions : List Name → List ActionValue → List Name
repeated_in_actions seen [] = []
repeated_in_actions seen (a ∷ rest) = word_if (is_in seen a.name) a.name ++ flat_map repeated_at (action_places a) ++ repeated_in_actions (seen ++ a.name ∷ []) rest

abbrev pub domain_repeats : DomainValue → List Name
domain_repeats d = retyped [] d.constants ++ repeated [] (map symbol_of d.predicates)
    ++ repeated [] (map symbol_of (function_signatures d)) ++ repeated_in_actions [] d.actions

abbrev pub problem_repeats : DomainValue → ProblemValue → List Name
problem_repeats d p = retyped d.constants p.objects ++ flat_map repeated_at (problem_places p)

-- ---- 25 ObjectTypes: a constant or an object whose type has more than one primitive. The word is the object

abbrev pub object_types : List TypedValue → List Name
object_types xs = map item_of (filter (λ x. nat_lt 1 (length x.of)) xs)

-- ---- what predicates and functions stand with

-- a name with its terms, and the declarations that it is looked up in
pub record Use : Type 0 where
  pub name : Name
  pub terms : List TermValue
  pub declared : List Signature

abbrev pub use_of : Setting → Part → Option Use
use_of s (says a) = Some (record { name = a.predicate; terms = a.terms; declared = s.predicates })
use_of s (calls f) = Some (record { name = f.function; terms = f.terms; declared = s.functions })
use_of s _ = None

-- the name, where a predicate or a function stands and the test holds of it
abbrev pub name_where : (Use → Bool) → Option Use → List Name
name_where test None = []
name_where test (Some u) = word_if (test u) u.name

abbrev pub is_declared : Use → Bool
is_declared u = is_in (map symbol_of u.declared) u.name

abbrev pub signature_of : Use → Option Signature
signature_of u = find (λ s. bytes_eq u.name s.name) u.declared

-- ---- 26 UnknownName: a predicate or a function that is not declared, `total-cost` of an increase or of a metric that is taken
-- among them; a name that is no constant, in an action, or no object, in `:init` and the goal; a variable that nothing binds. The
-- word is the name

abbrev pub terms_of : Part → List TermValue
terms_of (says a) = a.terms
terms_of (calls f) = f.terms
terms_of (equates t u) = t ∷ u ∷ []
terms_of _ = []

abbrev pub unknown_term : Setting → List TypedValue → TermValue → List Name
unknown_term s bound (name n) = word_if (not (is_in (map item_of s.objects) n)) n
unknown_term s bound (variable x) = word_if (not (is_in (map item_of bound) x)) x

abbrev pub unknown_at : Setting → Place → List Name
unknown_at s pl = name_where (λ u. not (is_declared u)) (use_of s pl.part) ++ flat_map (unknown_term s pl.bound) (terms_of pl.part)

-- ---- 27 Arity: an atom or a function term with another number of terms than declared; `total-cost` of an increase, or of a metric
-- that is taken, has none. The word is the predicate or the function

abbrev pub takes_others : Option Signature → List TermValue → Bool
takes_others None ts = false
takes_others (Some s) ts = not (length ts == length s.parameters)

abbrev pub arity_at : Setting → Place → List Name
arity_at s pl = name_where (λ u. takes_others (signature_of u) u.terms) (use_of s pl.part)

-- ---- 28 ArgumentType: a term that does not fit its slot. The word is the predicate or the function

-- a term with its type: the first object of the name, or the innermost variable
abbrev pub typed_term : Setting → List TypedValue → TermValue → Option TypedValue
typed_term s bound (name n) = find (is_named n) s.objects
typed_term s bound (variable x) = find (is_named x) bound

abbrev pub is_misfit : List TypeValue → Option TypedValue → TypedValue → Bool
is_misfit ps None slot = false
is_misfit ps (Some x) slot = not (fits ps x.of slot.of)

abbrev pub some_misfit : Setting → List TypedValue → List TermValue → List TypedValue → Bool
some_misfit s bound (t ∷ ts) (x ∷ xs) = is_misfit s.pairs (typed_term s bound t) x || some_misfit s bound ts xs
some_misfit s bound _ _ = false

abbrev pub has_misfit : Setting → List TypedValue → List TermValue → Option Signature → Bool
has_misfit s bound ts None = false
has_misfit s bound ts (Some g) = some_misfit s bound ts g.parameters

abbrev pub misfit_at : Setting → Place → List Name
misfit_at s pl = name_where (λ u. has_misfit s pl.bound u.terms (signature_of u)) (use_of s pl.part)

-- ---- 29 InitContradiction: an atom holds and fails in `:init`. The word is the predicate, at the later of two places

abbrev pub same_ground : GroundValue → GroundValue → Bool
same_ground f g = bytes_eq f.name g.name && same_names f.objects g.objects

abbrev pub contradicts : InitValue → InitValue → Bool
contradicts (holds f) (fails g) = same_ground f g
contradicts (fails f) (holds g) = same_ground f g
contradicts _ _ = false

-- the predicate or the function of an item
abbrev pub init_name : InitValue → Name
init_name (holds f) = f.name
init_name (fails f) = f.name
init_name (value f n) = f.name

-- of items behind others, the name of each that clashes with one before it
abbrev pub clashing : (InitValue → InitValue → Bool) → List InitValue → List InitValue → List Name
clashing clash = wrong_words (λ before i. list_any (clash i) before) init_name

abbrev pub contradictions : ProblemValue → List Name
contradictions p = clashing contradicts [] p.init

-- ---- 30 FractionalCost: a number that is not whole, in an increase or in `:init`. The word is `total-cost` for an increase, else
-- the function

abbrev pub billion : ℕ
billion = 1000000000

abbrev pub fraction_of : Part → List Name
fraction_of (counts f n) = word_if (not (n % billion == 0)) f
fraction_of _ = []

abbrev pub fraction_at : Place → List Name
fraction_at pl = fraction_of pl.part

-- ---- 31 CostValue: two different values for one function term in `:init`, at the later place, or a value of `total-cost` other
-- than 0. The word is the function

abbrev pub revalues : InitValue → InitValue → Bool
revalues (value f m) (value g n) = same_ground f g && not (m == n)
revalues _ _ = false

-- `total-cost` by its name, whatever its arguments
abbrev pub starts_above_zero : InitValue → Bool
starts_above_zero (value f n) = bytes_eq f.name total_cost && not (n == 0)
starts_above_zero _ = false

-- of items behind others, the function of each that is wrong by itself or clashes with one before it
abbrev pub wrong_values : List InitValue → List InitValue → List Name
wrong_values = wrong_words (λ before i. starts_above_zero i || list_any (revalues i) before) init_name

abbrev pub cost_values : ProblemValue → List Name
cost_values p = wrong_values [] p.init

-- ---- 32 ObjectFluent: a declared function whose result is not `number`. The word is the function

abbrev pub object_fluents : DomainValue → List Name
object_fluents d = map (λ f. f.item.name) (filter (λ f. not (same_names f.of number)) d.functions)

-- ---- 33 Metric: a metric that is not `minimize` of `total-cost` without arguments

abbrev pub other_metrics : Option MetricValue → List Name
other_metrics None = []
other_metrics (Some m) = word_if (not (is_taken m)) []

-- ---- 35 GoalTooLarge: the goal's ground size is over 1,000,000

abbrev pub setting_count : Setting → List Name → ℕ
setting_count s = fitting_count s.pairs s.objects

abbrev pub large_goals : DomainValue → ProblemValue → List Name
large_goals d p = word_if (nat_lt largest_size (formula_size (setting_count (in_problem d p)) p.goal)) []
