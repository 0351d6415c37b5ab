use Rattle.std.proofs.Common.{◌≡◌, None, replicate}
use Rattle.pddl_plan_tables.proofs.changes.no_changes.Given as goal

-- so many places as were counted
abbrev pub invariant-loop : goal.invariant-loop
invariant-loop g l = l.changes.items ≡ replicate l.counter None
