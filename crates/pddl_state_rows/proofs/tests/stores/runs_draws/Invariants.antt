use Rattle.pddl_state_rows.proofs.tests.stores.runs_draws.Given as goal

-- both sets are the store's own
abbrev pub invariant-loop : goal.invariant-loop
invariant-loop g l = record {
  first : g.S.AtomStore.owns l.sets.store l.sets.first;
  second : g.S.AtomStore.owns l.sets.store l.sets.second;
}
