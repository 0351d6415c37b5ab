use Rattle.std.proofs.Common.{[], ◌++◌, map}
use Rattle.pddl_formula.specs.TypedLists.{typed_view}
use Rattle.pddl_formula.specs.Formulas.{formula_view}
use Rattle.pddl_effect.specs.Effects.{effect_view}
use Rattle.pddl_task.specs.Places.{places_in, effect_places, binding}
use Rattle.pddl_task.proofs.Lists.{append-none}
use Rattle.pddl_names.specs.Uses.{faults_by}
use Rattle.pddl_names.proofs.Walks.{stopped, in_turn}
use Rattle.pddl_names.proofs.walk.search_action.Goals as goal

pub returns-in-Err-clause-found : goal.returns-in-Err-clause-found
returns-in-Err-clause-found g c =
    let a = c.args.action.now in
    let bound = binding (map typed_view a.parameters.items) [] in
    stopped c.args.known.now (map typed_view a.parameters.items) (places_in (formula_view a.precondition) bound ++ effect_places (effect_view a.effect) bound) c.in-Err.fault c.in-Err.ensures.passes

pub returns-in-Ok-clause-found : goal.returns-in-Ok-clause-found
returns-in-Ok-clause-found g c =
    let a = c.args.action.now in
    let bound = binding (map typed_view a.parameters.items) [] in
    rw (c.in-Ok.ensures.passes, append-none)
    (c.lower-in-Ok.ensures.found _ _ c.in-Ok.ensures.found
    (in_turn (faults_by c.args.known.now) (places_in (formula_view a.precondition) bound) (effect_places (effect_view a.effect) bound) _ _ _ c.lower.ensures.found
    (rw (c.in-Ok.ensures.bound, c.requires.empty) at c.search_formula-precondition.ensures.found)
    (rw (c.search_formula-precondition.ensures.kept, c.in-Ok.ensures.bound, c.requires.empty) at c.search_effect-effect.ensures.found)))
