use Rattle.std.proofs.Common.{◌≡◌, ◌++◌, map, drop}
use Rattle.pddl_formula.specs.TypedLists.{typed_view}
use Rattle.pddl_compiled.specs.Frames.{parameter_slot}
use Rattle.pddl_compiled.specs.Scopes.{slot_view}
use Rattle.pddl_compiled.proofs.scope.parameter_slots.Given as goal

-- the slots so far, and those that are left
abbrev pub invariant-loop-parameter : goal.invariant-loop-parameter
invariant-loop-parameter g l =
    map slot_view l.slots.items ++ map parameter_slot (map typed_view (drop l.parameter-index l.parameters)) ≡ map parameter_slot (map typed_view l.parameters)
