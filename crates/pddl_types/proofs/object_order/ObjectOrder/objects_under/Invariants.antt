use Rattle.std.proofs.Common.{◌≡◌, ℕ, sum_by}
use Rattle.pddl_types.proofs.ListSums.{sum_under}
use Rattle.pddl_types.proofs.object_order.ObjectOrder.objects_under.Given as goal

-- the objects under the tops so far are found
abbrev pub invariant-loop-top : goal.invariant-loop-top
invariant-loop-top g l = (f : ℕ → ℕ) → sum_by f l.found.items ≡ sum_under l.self.numbers.items l.self.objects.items l.tops f l.top-index
