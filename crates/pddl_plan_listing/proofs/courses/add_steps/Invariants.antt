use Rattle.pddl_plan_listing.proofs.courses.add_steps.Given as goal

-- the state is the store's own
abbrev pub invariant-loop-step : goal.invariant-loop-step
invariant-loop-step g l = record {
  own : g.S.AtomStore.owns l.store l.state;
}
