use Rattle.std.proofs.Common.{◌+◌, take, ◌∙◌, arith, take_all}
use Rattle.std.proofs.lemmas.List.Sums.{count_by-le-length}
use Rattle.pddl_forest.specs.Forests.{number_at}
use Rattle.pddl_forest.specs.Spans.{some_holds}
use Rattle.pddl_task.specs.Tasks.{places_from}
use Rattle.pddl_types.proofs.ListSums.{sum_ones, places_many, in_order, none_under, next_top}
use Rattle.pddl_types.proofs.object_order.ObjectOrder.count.Goals as goal

pub loop-top-init : goal.loop-top-init
loop-top-init g c = none_under c.args.self.now.numbers.items c.args.self.now.objects.items c.args.tops.now (λ _. 1)

pub overflow_add-count : goal.overflow_add-count
overflow_add-count g c =
    let numbers = c.args.self.now.numbers.items in
    let held = c.args.self.now.objects in
    let k = c.loop-top.top-index in
    let few = count_by-le-length (λ o. some_holds (take (k + 1) c.args.tops.now) (number_at numbers o)) held.items in
    omega (arith, next_top numbers held.items c.args.tops.now c.requires k c.loop-top-test.true (λ _. 1), few, c.loop-top.invariant, c.under.ensures (λ _. 1), sum_ones c.under.result.now, held.ok.0, held.ok.1, held.small)

pub loop-top-preserved : goal.loop-top-preserved
loop-top-preserved g c =
    let next = next_top c.args.self.now.numbers.items c.args.self.now.objects.items c.args.tops.now c.requires c.loop-top.top-index c.loop-top-test.true (λ _. 1) in
    omega (arith, next, c.loop-top.invariant, c.under.ensures (λ _. 1), sum_ones c.under.result.now)

pub returns : goal.returns
returns g c =
    let numbers = c.args.self.now.numbers.items in
    let test = some_holds c.args.tops.now in
    let all = in_order numbers c.args.self.now.objects.items test (λ _. 1) c.args.self.now.ordered in
    rw (take_all c.loop-top.top-index c.args.tops.now c.loop-top-test.false) at c.loop-top.invariant ∙ all ∙ sum_ones (places_from 0 test numbers) ∙ places_many test 0 numbers
