-- Domains (Kovacs, BNF definition of PDDL 3.1, `<domain>`; what is left out is own).
use Rattle.std.specs.Prelude.{ℕ, List, map}
use Rattle.pddl_formula.specs.TypedLists.{TypedValue, typed_view}
use Rattle.pddl_domain.specs.Declarations.{TypeValue, Signature, FunctionValue, type_view, predicate_view, function_view}
use Rattle.pddl_domain.specs.Actions.{ActionValue, action_view}
use Rattle.pddl_domain.specs.declared.domain.Domain.{Domain}

-- a domain: flags by their names without the colon, types with their parents, constants, predicates, functions with the types
-- of their results, and actions
pub record DomainValue : Type 0 where
  pub name : List ℕ
  pub requirements : List (List ℕ)
  pub types : List TypeValue
  pub constants : List TypedValue
  pub predicates : List Signature
  pub functions : List FunctionValue
  pub actions : List ActionValue

-- a domain of the program without where it lies in memory
abbrev pub domain_view : {A : _} → Domain A → DomainValue
domain_view d = record {
  name = d.name;
  requirements = d.requirements.items;
  types = map type_view d.types.items;
  constants = map typed_view d.constants.items;
  predicates = map predicate_view d.predicates.items;
  functions = map function_view d.functions.items;
  actions = map action_view d.actions.items;
}
