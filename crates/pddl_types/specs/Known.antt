-- What is known by name of a domain, and of the objects that are listed, while files are looked at. Own.
use Rattle.std.specs.Prelude.{◌≡◌, ℕ, List, [], ◌++◌, Vec, map, flat_map}
use Rattle.std.specs.List.{AllZip}
use Rattle.pddl_formula.specs.TypedLists.{TypedValue}
use Rattle.pddl_domain.specs.Actions.{ActionValue}
use Rattle.pddl_domain.specs.Domains.{DomainValue}
use Rattle.pddl_task.specs.Names.{Name, repeated}
use Rattle.pddl_task.specs.Types.{pairs}
use Rattle.pddl_task.specs.GroundSize.{fitting_count}
use Rattle.pddl_task.specs.Settings.{symbol_of, parameters_of, function_signatures}
use Rattle.pddl_faults.specs.Found.{numbered}
use Rattle.pddl_types.specs.KnownNames.{object_in}
use Rattle.pddl_types.specs.Told.{ToldValue, AreAt, AreTold}
use Rattle.pddl_types.specs.Objects.{AreSeen, off_types}
use Rattle.pddl_types.specs.Signatures.{HaveFirst, HaveSignatures}
use Rattle.pddl_types.specs.declared.known.Known.{Known}

-- the objects that are listed
abbrev pub objects_in : {A B : _} → Known A B → List TypedValue
objects_in k = map object_in k.listed.objects.entries

-- how many of them fit a type
abbrev pub count_in : {A B : _} → Known A B → List Name → ℕ
count_in k = fitting_count (pairs k.types.declared) (objects_in k)

-- what a domain declares with a type, outside of actions
abbrev pub declared_typed : DomainValue → List TypedValue
declared_typed d = d.constants ++ (flat_map parameters_of d.predicates ++ flat_map parameters_of (function_signatures d))

-- constants that are listed with two types, and predicates and functions that are declared twice
abbrev pub repeated_names : DomainValue → List (ℕ × Name)
repeated_names d = numbered 24 (off_types [] d.constants) ++ (numbered 24 (repeated [] (map symbol_of d.predicates)) ++ numbered 24 (repeated [] (map symbol_of (function_signatures d))))

-- the parameters of actions, one after another
abbrev pub parameters_among : List ActionValue → List TypedValue
parameters_among = flat_map (λ a. a.parameters)

-- no predicate and no function is declared twice
pub record IsDeclaredOnce (d : DomainValue) : Type 0 where
  pub predicates : repeated [] (map symbol_of d.predicates) ≡ []
  pub functions : repeated [] (map symbol_of (function_signatures d)) ≡ []

-- the types of the parameters of actions are told at these numbers
abbrev pub AreParametersAt : {B : Type 0} → ToldValue → List ActionValue → List (Vec ℕ B) → Type 0
AreParametersAt told = AllZip (λ a numbers. AreAt told a.parameters numbers.items)

-- nothing is known but types
pub record IsNothing {A B : Type 0} (k : Known A B) : Type 0 where
  pub objects : (told : ToldValue) → AreSeen told [] k.listed
  pub predicates : k.predicates.entries ≡ []
  pub functions : k.functions.entries ≡ []
  pub actions : k.actions.items ≡ []

-- a domain's types, its predicates and functions, of each name the first, and these objects are known, and their types are told; no actions yet
pub record AreKnown {A B : Type 0} (d : DomainValue) (objects : List TypedValue) (k : Known A B) (told : ToldValue) : Type 0 where
  pub typed : k.types.declared ≡ d.types
  pub types : AreTold k.types told
  pub predicates : HaveFirst told k.predicates.entries d.predicates
  pub functions : HaveFirst told k.functions.entries (function_signatures d)
  pub actions : k.actions.items ≡ []
  pub listed : AreSeen told objects k.listed

-- all that a domain declares, and these objects are known, and their types are told
pub record AreAllKnown {A B : Type 0} (d : DomainValue) (objects : List TypedValue) (k : Known A B) (told : ToldValue) : Type 0 where
  pub typed : k.types.declared ≡ d.types
  pub types : AreTold k.types told
  pub predicates : HaveSignatures told k.predicates.entries d.predicates
  pub functions : HaveSignatures told k.functions.entries (function_signatures d)
  pub actions : AreParametersAt told d.actions k.actions.items
  pub listed : AreSeen told objects k.listed
