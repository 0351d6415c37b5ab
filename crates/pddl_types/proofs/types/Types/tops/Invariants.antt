use Rattle.std.proofs.Common.{◌≡◌, take, map}
use Rattle.pddl_types.specs.TypeSpans.{span_of}
use Rattle.pddl_types.proofs.types.Types.tops.Given as goal

-- the spans of the primitives so far
abbrev pub invariant-loop-primitive : goal.invariant-loop-primitive
invariant-loop-primitive g l = l.tops.items ≡ map (span_of l.self) (take l.primitive-index l.primitives)
