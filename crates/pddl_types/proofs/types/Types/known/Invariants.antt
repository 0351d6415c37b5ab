use Rattle.std.proofs.Common.{◌≡◌, drop, filter, not}
use Rattle.pddl_task.specs.Names.{is_in}
use Rattle.pddl_task.specs.Types.{types_of}
use Rattle.pddl_types.proofs.types.Types.known.Given as goal

abbrev pub invariant-loop-primitive : goal.invariant-loop-primitive
invariant-loop-primitive g l = filter (λ t. not (is_in (types_of l.self.declared) t)) (drop l.primitive-index l.primitives) ≡ filter (λ t. not (is_in (types_of l.self.declared) t)) l.types
