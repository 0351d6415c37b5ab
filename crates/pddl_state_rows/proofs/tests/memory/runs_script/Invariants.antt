use Rattle.pddl_state_rows.proofs.tests.memory.runs_script.Given as goal

-- both sets are the store's own
abbrev pub invariant-loop-step : goal.invariant-loop-step
invariant-loop-step g l = record {
  first : g.S.AtomStore.owns l.sets.store l.sets.first;
  second : g.S.AtomStore.owns l.sets.store l.sets.second;
}
