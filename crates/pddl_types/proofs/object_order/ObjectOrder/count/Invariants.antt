use Rattle.std.proofs.Common.{◌≡◌}
use Rattle.pddl_types.proofs.ListSums.{sum_under}
use Rattle.pddl_types.proofs.object_order.ObjectOrder.count.Given as goal

-- the objects under the tops so far are counted
abbrev pub invariant-loop-top : goal.invariant-loop-top
invariant-loop-top g l = l.count ≡ sum_under l.self.numbers.items l.self.objects.items l.tops (λ _. 1) l.top-index
