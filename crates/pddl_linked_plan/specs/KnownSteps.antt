-- The ground atoms that a step speaks of.
use Rattle.std.specs.Prelude.{◌≡◌, [], map, Some}
use Rattle.pddl_plan.specs.Plans.{StepValue}
use Rattle.pddl_domain.specs.Actions.{ActionValue}
use Rattle.pddl_task.specs.Tasks.{TaskValue, fitting_names}
use Rattle.pddl_task.specs.Valuations.{giving}
use Rattle.pddl_task.specs.Known.{formula_atoms, atom_of, effect_atoms, AreKnown}
use Rattle.pddl_linked_plan.specs.StepFaults.{action_named}

-- The step's action is known, and with the step's objects for its parameters every atom that its precondition and its effect speak of.
abbrev pub IsKnownStep : TaskValue → StepValue → Type 0
IsKnownStep task s =
    (a : ActionValue) × (action_named task s.action ≡ Some a)
    × AreKnown task (formula_atoms (fitting_names task) a.precondition (giving a.parameters s.objects []))
    × AreKnown task (map atom_of (effect_atoms (fitting_names task) a.effect (giving a.parameters s.objects [])))
