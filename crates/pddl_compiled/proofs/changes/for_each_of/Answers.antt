use Rattle.std.proofs.Common.{rules, ◌≡◌, [], ◌∷◌, ◌++◌}
use Rattle.pddl_compiled.specs.Compiled as value
use Rattle.pddl_compiled.specs.Views.{change_view}
use Rattle.pddl_compiled.proofs.Binders.{node_inside}
use Rattle.pddl_compiled.proofs.changes.for_each_of.Goals as goal

pub loop-range-preserved : goal.loop-range-preserved
loop-range-preserved g c =
    let left = c.pop.new.self.items in
    let range = c.in-Some.range in
    let last : c.loop-range.ranges.items ≡ left ++ range ∷ [] = search rules in
    node_inside change_view value.each left c.loop-range.ranges.items c.args.ranges.items range last c.args.inner c.loop-range.change c.for_each-change.result c.loop-range.invariant c.for_each-change.ensures
