-- Who may be named: the objects of a task, and what is declared where something stands.
use Rattle.std.specs.Prelude.{List, map, ◌++◌}
use Rattle.pddl_formula.specs.TypedLists.{TypedValue}
use Rattle.pddl_domain.specs.Declarations.{TypeValue, Signature}
use Rattle.pddl_domain.specs.Domains.{DomainValue}
use Rattle.pddl_problem.specs.Problems.{ProblemValue}
use Rattle.pddl_task.specs.Names.{Name, item_of, firsts}
use Rattle.pddl_task.specs.Types.{pairs}

-- the name of a predicate or a function
abbrev pub symbol_of : Signature → Name
symbol_of s = s.name

-- its parameters
abbrev pub parameters_of : Signature → List TypedValue
parameters_of s = s.parameters

-- the functions without the types of their results
abbrev pub function_signatures : DomainValue → List Signature
function_signatures d = map item_of d.functions

-- the objects of a task: constants first, then the problem's, each at its first place
abbrev pub objects_of : DomainValue → ProblemValue → List TypedValue
objects_of d p = firsts (d.constants ++ p.objects)

-- types with their parents, what is declared, and the names that may stand as terms, with their types
pub record Setting : Type 0 where
  pub pairs : List TypeValue
  pub predicates : List Signature
  pub functions : List Signature
  pub objects : List TypedValue

abbrev pub setting : DomainValue → List TypedValue → Setting
setting d objects = record { pairs = pairs d.types; predicates = d.predicates; functions = function_signatures d; objects = objects }

-- in an action, constants alone may be named
abbrev pub in_domain : DomainValue → Setting
in_domain d = setting d (firsts d.constants)

-- in `:init` and the goal, all objects
abbrev pub in_problem : DomainValue → ProblemValue → Setting
in_problem d p = setting d (objects_of d p)
