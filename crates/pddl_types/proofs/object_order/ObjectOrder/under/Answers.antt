use Rattle.pddl_forest.specs.Forests.{number_at}
use Rattle.pddl_types.proofs.ListSums.{part_sum}
use Rattle.pddl_types.proofs.object_order.ObjectOrder.under.Goals as goal

pub returns : goal.returns
returns g c = rw c.deref.ensures.value (λ f.
    let start = c.below-start.ensures in
    part_sum (number_at c.args.self.now.numbers.items) c.args.top c.requires f c.args.self.now.objects.items c.below-start.result c.below-end.result start.within start.point c.below-end.ensures.point)
