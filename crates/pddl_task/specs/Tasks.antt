-- The task of a domain and a problem.
use Rattle.std.specs.Prelude.{ℕ, ◌+◌, ◌/◌, Bool, cond, List, [], ◌∷◌, map, Option, Some, None}
use Rattle.std.specs.List.{filter_map}
use Rattle.std.specs.Map.{lookup}
use Rattle.pddl_formula.specs.TypedLists.{TypedValue}
use Rattle.pddl_formula.specs.Formulas.{FormulaValue}
use Rattle.pddl_domain.specs.Declarations.{TypeValue, Signature}
use Rattle.pddl_domain.specs.Actions.{ActionValue}
use Rattle.pddl_domain.specs.Domains.{DomainValue}
use Rattle.pddl_problem.specs.Inits.{GroundValue, InitValue, holds, value}
use Rattle.pddl_problem.specs.Problems.{ProblemValue}
use Rattle.pddl_task.specs.Names.{Name, item_of}
use Rattle.pddl_task.specs.Types.{pairs, fits, fitting}
use Rattle.pddl_task.specs.Settings.{objects_of, symbol_of, function_signatures}
use Rattle.pddl_task.specs.Faults.{billion, same_ground}
use Rattle.pddl_task.specs.GroundSize.{fitting_count}

-- What a domain and a problem say together: the objects in order, the declared types with their parents, the predicates, the
-- functions and the actions as declared, the whole cost of each function of objects that `:init` gives a value, the atoms that hold at first, and
-- the goal. Items of `:init` stand in their order; one that is repeated adds nothing to what is meant.
pub record TaskValue : Type 0 where
  pub objects : List TypedValue
  pub types : List TypeValue
  pub predicates : List Signature
  pub functions : List Signature
  pub actions : List ActionValue
  pub costs : List (GroundValue × ℕ)
  pub initial : List GroundValue
  pub goal : FormulaValue

-- what an item of `:init` makes hold
abbrev pub fact_in : InitValue → Option GroundValue
fact_in (holds f) = Some f
fact_in _ = None

-- what it costs, from billionths to whole numbers
abbrev pub cost_in : InitValue → Option (GroundValue × ℕ)
cost_in (value f n) = Some (f, n / billion)
cost_in _ = None

abbrev pub task_of : DomainValue → ProblemValue → TaskValue
task_of d p = record {
  objects = objects_of d p;
  types = d.types;
  predicates = d.predicates;
  functions = function_signatures d;
  actions = d.actions;
  costs = filter_map cost_in p.init;
  initial = filter_map fact_in p.init;
  goal = p.goal;
}

-- the names of its objects, of its predicates, and of its functions, in order
abbrev pub object_names : TaskValue → List Name
object_names task = map item_of task.objects

abbrev pub predicate_names : TaskValue → List Name
predicate_names task = map symbol_of task.predicates

abbrev pub function_names : TaskValue → List Name
function_names task = map symbol_of task.functions

-- the cost of a function of objects, where `:init` gives it one
abbrev pub cost_of : TaskValue → GroundValue → Option ℕ
cost_of task g = lookup (same_ground g) task.costs

-- the names of the objects that fit a type, in order
abbrev pub fitting_names : TaskValue → List Name → List Name
fitting_names task types = map item_of (fitting (pairs task.types) task.objects types)

-- the places, from a first one on, of what passes a test
abbrev pub places_from : {X : Type 0} → ℕ → (X → Bool) → List X → List ℕ
places_from n test [] = []
places_from n test (x ∷ xs) = cond (test x) (n ∷ places_from (n + 1) test xs) (places_from (n + 1) test xs)

-- the numbers of the objects that fit a type, rising
abbrev pub fitting_numbers : TaskValue → List Name → List ℕ
fitting_numbers task types = places_from 0 (λ o. fits (pairs task.types) o.of types) task.objects

-- how many objects fit a type
abbrev pub task_count : TaskValue → List Name → ℕ
task_count task = fitting_count (pairs task.types) task.objects
