-- Steps of a task over atoms by their numbers (own). A set of numbers says of each ground atom of the task whether its number is in it.
use Rattle.std.specs.Prelude.{◌||◌, List, []}
use Rattle.std.specs.List.{list_any}
use Rattle.pddl_domain.specs.Actions.{ActionValue}
use Rattle.pddl_problem.specs.Inits.{GroundValue}
use Rattle.pddl_task.specs.Names.{Name}
use Rattle.pddl_task.specs.Valuations.{giving}
use Rattle.pddl_task.specs.Tasks.{TaskValue, object_names, predicate_names, fitting_names}
use Rattle.pddl_task.specs.Known.{formula_atoms, tested, effect_atoms}
use Rattle.pddl_state.specs.Atoms.{AtomValue, atom_eq}
use Rattle.pddl_happenings.specs.Steps.{Step}
use Rattle.pddl_happenings.specs.NamedSteps.{by_name}
use Rattle.pddl_meaning.specs.Worlds.{Atoms, no_atoms}
use Rattle.pddl_meaning.specs.Effects.{fired}
use Rattle.pddl_meaning.specs.Steps.{step_of}
use Rattle.pddl_compiled.specs.Tables.{number_atom}

-- The number of a ground atom.
abbrev pub number_of : TaskValue → GroundValue → AtomValue
number_of task = number_atom (predicate_names task) (object_names task)

-- the ground atoms of a number
abbrev pub has_number : TaskValue → AtomValue → Atoms
has_number task x = by_name (number_of task) (atom_eq x)

-- An action with objects, in a set of numbers, is as ready and costs as much as in the state of their atoms; it reads, adds and deletes the numbers of the atoms
-- that it reads, adds and deletes there.
abbrev pub numbered_step : TaskValue → ActionValue → List Name → Step AtomValue
numbered_step task a os = record {
  ready = λ s. (step_of task a os).ready (by_name (number_of task) s);
  reads = λ x. list_any (has_number task x) (formula_atoms (fitting_names task) a.precondition (giving a.parameters os []))
      || list_any (tested (has_number task x) no_atoms no_atoms) (effect_atoms (fitting_names task) a.effect (giving a.parameters os []));
  adds = λ s x. list_any (tested no_atoms (has_number task x) no_atoms) (fired (fitting_names task) (by_name (number_of task) s) a.effect (giving a.parameters os []));
  dels = λ s x. list_any (tested no_atoms no_atoms (has_number task x)) (fired (fitting_names task) (by_name (number_of task) s) a.effect (giving a.parameters os []));
  cost = λ s. (step_of task a os).cost (by_name (number_of task) s);
}
