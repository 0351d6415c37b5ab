use Rattle.std.proofs.Common.{◌≡◌, cond, map, vec_len}
use Rattle.std.specs.Prelude.{IfOk, IsOkAnd}
use Rattle.pddl_compiled.specs.Compiled as value
use Rattle.pddl_compiled.specs.Compiler.{wrapped}
use Rattle.pddl_compiled.specs.Views.{condition_view}
use Rattle.pddl_compiled.specs.Scopes.{range_items}
use Rattle.pddl_compiled.proofs.conditions.quantified_by.Given as goal

abbrev pub invariant-loop-range : goal.invariant-loop-range
invariant-loop-range g l =
    let node = cond l.some value.existential value.universal in
    IfOk l.condition (λ c. IsOkAnd l.fn.inner (λ i. wrapped node (map range_items l.ranges.items) (condition_view c) ≡ wrapped node (map range_items l.fn.ranges.items) (condition_view i)))

abbrev pub decreases-loop-range : goal.decreases-loop-range
decreases-loop-range g l = vec_len l.ranges
