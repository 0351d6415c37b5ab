use Rattle.std.proofs.Common.{ap, ◌∙◌, arith, sum_by, take_all}
use Rattle.std.proofs.lemmas.List.Sorted.{sum_by-IsPermutation, IsNonDecreasingBy-from_sort}
use Rattle.std.proofs.lemmas.List.Sums.{sum_by-append}
use Rattle.pddl_forest.specs.Spans.{some_holds}
use Rattle.pddl_task.specs.Tasks.{places_from}
use Rattle.pddl_types.proofs.ListSums.{same_rising, places_rise, in_order, none_under, next_top}
use Rattle.pddl_types.proofs.object_order.ObjectOrder.objects_under.Goals as goal

pub loop-top-init : goal.loop-top-init
loop-top-init g c = λ f. ap (sum_by f) c.new-found.ensures.items ∙ none_under c.args.self.now.numbers.items c.args.self.now.objects.items c.args.tops.now f

pub loop-top-preserved : goal.loop-top-preserved
loop-top-preserved g c = λ f.
    let next = next_top c.args.self.now.numbers.items c.args.self.now.objects.items c.args.tops.now c.requires c.loop-top.top-index c.loop-top-test.true f in
    let added = ap (sum_by f) c.in_ok-extend_from_slice.ensures.items ∙ sum_by-append f c.loop-top.found.items c.under.result.now in
    let so_far = c.loop-top.invariant f in
    omega (arith, next, added, so_far, c.under.ensures f)

pub returns : goal.returns
returns g c =
    let numbers = c.args.self.now.numbers.items in
    let test = some_holds c.args.tops.now in
    let found = c.sort_unstable.new.self.items in
    same_rising found (places_from 0 test numbers) (IsNonDecreasingBy-from_sort (λ n. n) found c.sort_unstable.ensures.sorted) (places_rise test numbers 0) (λ f.
    sum_by-IsPermutation f c.loop-top.found.items found c.sort_unstable.ensures.permutation ∙ rw (take_all c.loop-top.top-index c.args.tops.now c.loop-top-test.false) at (c.loop-top.invariant f)
    ∙ in_order numbers c.args.self.now.objects.items test f c.args.self.now.ordered)
