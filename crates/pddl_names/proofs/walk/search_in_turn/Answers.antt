use Rattle.std.proofs.Common.{[], ◌∷◌, ◌++◌, refl, ap, ◌∙◌}
use Rattle.std.proofs.lemmas.List.{drop_all}
use Rattle.pddl_domain.specs.Actions.{action_view}
use Rattle.pddl_faults.proofs.FoundFaults.{passed_found, up_to_none, up_to_more, up_to_all}
use Rattle.pddl_faults.proofs.ListTurns.{views_drop}
use Rattle.pddl_names.specs.FaultParts.{action_faults}
use Rattle.pddl_names.specs.Uses.{faults_by}
use Rattle.pddl_names.proofs.SeenNames.{has, put_seen}
use Rattle.pddl_names.proofs.walk.search_in_turn.Goals as goal

pub loop-action-init : goal.loop-action-init
loop-action-init g c = record {
  told = c.requires.told;
  empty = c.requires.empty;
  so_far = record { seen = []; same = λ n. ap (λ ks. has ks n) c.requires.seen; so_far = up_to_none };
}

pub loop-action-preserved : goal.loop-action-preserved
loop-action-preserved g c =
    let a = c.action-item.result in
    let named = c.as_bytes-name.ensures.value in
    let so = c.loop-action.invariant.so_far in
    let own = c.search_action-own.ensures in
    let (seen, same) = put_seen c.loop-action.seen.keys so.seen _ a.name _ _ so.same named c.in_ok-is_new.ensures.added c.in_ok-is_new.ensures.keys in
    record {
      told = own.told;
      empty = own.kept ∙ c.loop-action.invariant.empty;
      so_far = record {
        seen = so.seen ++ a.name ∷ [];
        same = same;
        so_far =
            up_to_more _ c.lower.result (ap (action_faults (faults_by c.args.known.now) so.seen) (views_drop action_view c.args.actions.now c.loop-action.action-index a c.loop-action-test.true c.action-item.is))
            c.lower-found.ensures.found
            (c.lower.ensures.found _ _ (passed_found 24 _ _ (rw (seen, named) at c.once.ensures)) own.found) so.so_far;
      };
    }

pub returns-clause-found : goal.returns-clause-found
returns-clause-found g c =
    up_to_all refl (rw (drop_all c.loop-action.action-index c.args.actions.now c.loop-action-test.false) at c.loop-action.invariant.so_far.so_far)
