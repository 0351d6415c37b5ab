use Rattle.std.proofs.Common.{map, refl, flat_map, append_assoc}
use Rattle.std.proofs.lemmas.List.Concat.{flat_map-append}
use Rattle.pddl_problem.specs.Inits.{init_view}
use Rattle.pddl_task.specs.Places.{init_places}
use Rattle.pddl_names.specs.Uses.{faults_by}
use Rattle.pddl_names.proofs.Walks.{one_more, at_end}
use Rattle.pddl_names.proofs.walk.search_problem.Goals as goal

pub loop-item-preserved : goal.loop-item-preserved
loop-item-preserved g c = record {
  told = rw c.search_item.ensures.kept c.loop-item.invariant.told;
  so_far = one_more (faults_by c.args.known.now) (λ items. flat_map init_places (map init_view items)) c.deref-item-items.result.now _ _ _ c.loop-item-test.true c.item-item.is (λ rest. refl)
      c.lower-init.ensures.found c.search_item.ensures.found c.loop-item.invariant.so_far;
}

pub returns-clause-found : goal.returns-clause-found
returns-clause-found g c =
    rw (append_assoc, flat_map-append, flat_map-append, append_assoc, append_assoc)
    (c.lower-2.ensures.found _ _
    (at_end (faults_by c.args.known.now) (λ items. flat_map init_places (map init_view items)) c.deref-item-items.result.now c.loop-item-test.false refl c.deref-item-items.ensures.value c.loop-item.invariant.so_far)
    (c.lower.ensures.found _ _ (rw c.new-scope.ensures at c.search_formula-goal.ensures.found) c.search_metric-metric.ensures.found))
