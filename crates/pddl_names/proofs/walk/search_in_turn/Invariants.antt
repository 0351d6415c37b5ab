use Rattle.std.proofs.Common.{◌≡◌, []}
use Rattle.pddl_names.specs.Uses.{faults_by, AreAllTold}
use Rattle.pddl_names.proofs.SeenNames.{ActionsUpTo}
use Rattle.pddl_names.proofs.walk.search_in_turn.Given as goal

abbrev pub invariant-loop-action : goal.invariant-loop-action
invariant-loop-action g l = record {
  told : AreAllTold l.known l.told l.scope;
  empty : l.scope ≡ [];
  so_far : ActionsUpTo (faults_by l.known) l.actions l.action-index l.seen.keys l.found;
}
