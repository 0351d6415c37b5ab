use Rattle.std.proofs.Common.{rules, ◌≡◌, [], ◌∷◌, ◌++◌, cond}
use Rattle.pddl_compiled.specs.Compiled as value
use Rattle.pddl_compiled.specs.Views.{condition_view}
use Rattle.pddl_compiled.proofs.Binders.{node_inside}
use Rattle.pddl_compiled.proofs.conditions.quantified_by.Goals as goal

pub loop-range-preserved : goal.loop-range-preserved
loop-range-preserved g c =
    let left = c.pop.new.self.items in
    let range = c.in-Some.range in
    let last : c.loop-range.ranges.items ≡ left ++ range ∷ [] = search rules in
    node_inside condition_view (cond c.args.some value.existential value.universal) left c.loop-range.ranges.items c.args.ranges.items range last c.args.inner c.loop-range.condition c.quantified-condition.result c.loop-range.invariant c.quantified-condition.ensures
