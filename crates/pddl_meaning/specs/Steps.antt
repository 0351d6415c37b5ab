-- What a step does in a state (Fox and Long, PDDL2.1: a ground action with its precondition, additions and deletions).
use Rattle.std.specs.Prelude.{◌||◌, List, []}
use Rattle.pddl_domain.specs.Actions.{ActionValue}
use Rattle.pddl_problem.specs.Inits.{GroundValue}
use Rattle.pddl_task.specs.Names.{Name}
use Rattle.pddl_task.specs.Tasks.{TaskValue}
use Rattle.pddl_task.specs.Valuations.{Valuation, giving}
use Rattle.pddl_meaning.specs.Worlds.{World, world_of}
use Rattle.pddl_meaning.specs.Truth.{truth, formula_reads}
use Rattle.pddl_meaning.specs.Effects.{effect_reads, effect_adds, effect_dels, effect_cost}
use Rattle.pddl_happenings.specs.Steps.{Step}

-- An action in a world, with objects for its parameters. It reads what its precondition reads and what its effect's conditions read.
abbrev pub applied : World → ActionValue → Valuation → Step GroundValue
applied w a v = record {
  ready = λ s. truth w.fit s a.precondition v;
  reads = λ g. formula_reads w.fit a.precondition v g || effect_reads w.fit a.effect v g;
  adds = λ s. effect_adds w.fit s a.effect v;
  dels = λ s. effect_dels w.fit s a.effect v;
  cost = λ s. effect_cost w s a.effect v;
}

-- A step of a task: an action with objects for its parameters.
abbrev pub step_of : TaskValue → ActionValue → List Name → Step GroundValue
step_of task a os = applied (world_of task) a (giving a.parameters os [])
