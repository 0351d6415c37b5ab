use Rattle.std.proofs.Common.{map, flat_map}
use Rattle.pddl_problem.specs.Inits.{init_view}
use Rattle.pddl_task.specs.Places.{init_places}
use Rattle.pddl_names.specs.Uses.{faults_by, AreAllTold}
use Rattle.pddl_names.proofs.Walks.{FoundBefore}
use Rattle.pddl_names.proofs.walk.search_problem.Given as goal

abbrev pub invariant-loop-item : goal.invariant-loop-item
invariant-loop-item g l = record {
  told : AreAllTold l.known l.told l.scope;
  so_far : FoundBefore (faults_by l.known) (λ items. flat_map init_places (map init_view items)) l.item-items l.item-index l.init;
}
