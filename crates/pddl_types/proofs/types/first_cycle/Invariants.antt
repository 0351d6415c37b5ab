use Rattle.std.proofs.Common.{◌≡◌, drop, map, filter}
use Rattle.pddl_domain.specs.Declarations.{type_view}
use Rattle.pddl_task.specs.Names.{item_of}
use Rattle.pddl_task.specs.Types.{pairs, is_cyclic}
use Rattle.pddl_types.proofs.types.first_cycle.Given as goal

-- the types that are above themselves are among those that are left
abbrev pub invariant-loop-declared_type : goal.invariant-loop-declared_type
invariant-loop-declared_type g l =
    let declared = map type_view l.declared in
    filter (is_cyclic (pairs declared)) (drop l.declared_type-index (map item_of declared)) ≡ filter (is_cyclic (pairs declared)) (map item_of declared)
