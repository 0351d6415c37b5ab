-- Ground atoms of a task by numbers (own). Predicates and objects are numbered from 0, in the order of the task.
use Rattle.std.specs.Prelude.{◌≡◌, ◌<◌, List, map, length, Some, slice_get}
use Rattle.std.specs.List.{AllByRecursion}
use Rattle.pddl_task.specs.Names.{number_in}
use Rattle.pddl_problem.specs.Inits.{GroundValue}
use Rattle.pddl_task.specs.Tasks.{TaskValue, predicate_names, object_names}
use Rattle.pddl_state.specs.Atoms.{AtomValue}
use Rattle.pddl_linked_plan.specs.LinkedLaws.{name_at}

-- a ground atom of which the task has all names
abbrev pub numbered : TaskValue → GroundValue → AtomValue
numbered task g = record { predicate = number_in (predicate_names task) g.name; args = map (number_in (object_names task)) g.objects }

-- the atoms that hold at first, in the order of `:init`
abbrev pub initial_atoms : TaskValue → List AtomValue
initial_atoms task = map (numbered task) task.initial

-- the numbers are those of the atom's names
pub record NamesAtom (task : TaskValue) (g : GroundValue) (atom : AtomValue) : Type 0 where
  pub predicate : slice_get (predicate_names task) atom.predicate ≡ Some g.name
  pub objects : map (slice_get (object_names task)) atom.args ≡ map Some g.objects

-- the numbers are of a predicate and of objects of the task
pub record IsInRange (task : TaskValue) (atom : AtomValue) : Type 0 where
  pub predicate : atom.predicate < length task.predicates
  pub objects : AllByRecursion (λ n. n < length task.objects) atom.args

-- an atom by the names of its numbers
abbrev pub named_atom : TaskValue → AtomValue → GroundValue
named_atom task atom = record { name = name_at (predicate_names task) atom.predicate; objects = map (name_at (object_names task)) atom.args }
