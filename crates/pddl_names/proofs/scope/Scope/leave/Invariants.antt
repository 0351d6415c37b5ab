use Rattle.std.proofs.Common.{◌≡◌, drop, map, reverse}
use Rattle.pddl_names.specs.Scopes.{entry_of, IsScope}
use Rattle.pddl_names.proofs.scope.Scope.leave.Given as goal

abbrev pub invariant-loop : goal.invariant-loop
invariant-loop g l = record {
  left : map entry_of (reverse l.self-inside.bound.items) ≡ drop l.counter l.fn.self;
  is_scope : IsScope (reverse l.self-inside.bound.items) l.self-inside.innermost.entries;
}
