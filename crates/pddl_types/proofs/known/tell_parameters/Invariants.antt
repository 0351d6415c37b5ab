use Rattle.std.proofs.Common.{◌≡◌, map, take, drop}
use Rattle.pddl_domain.specs.Actions.{action_view}
use Rattle.pddl_types.specs.Told.{AreTold, AreKept, unknown_among}
use Rattle.pddl_types.specs.Known.{parameters_among, AreParametersAt}
use Rattle.pddl_types.proofs.known.tell_parameters.Given as goal

-- the types of the actions so far are told, and what is unknown is unknown in the rest
abbrev pub invariant-loop-action : goal.invariant-loop-action
invariant-loop-action g l = record {
  types : AreTold l.types l.told;
  kept : AreKept l.fn.told l.told;
  held : AreParametersAt l.told (map action_view (take l.action-index l.actions)) l.table.items;
  left : unknown_among l.types.declared (parameters_among (map action_view (drop l.action-index l.actions))) ≡ unknown_among l.types.declared (parameters_among (map action_view l.actions));
}
