use Rattle.pddl_names.proofs.Scopes.{IsEnteredUpTo}
use Rattle.pddl_names.proofs.scope.Scope.enter.Given as goal

abbrev pub invariant-loop-place : goal.invariant-loop-place
invariant-loop-place g l = IsEnteredUpTo l.list.items l.numbers l.fn.self l.self l.place l.found
