use Rattle.std.proofs.Common.{◌-◌, ◌<◌, length, leb, rules, arith}
use Rattle.std.proofs.lemmas.List.Sorted.{IsPartitionPoint-from_clause}
use Rattle.pddl_forest.specs.Spans.{at}
use Rattle.pddl_forest.proofs.ApartSpans.{parted, parted_at}
use Rattle.pddl_forest.proofs.spans.begun_by.Goals as goal
use Rattle.pddl_forest.proofs.spans.begun_by.Goals.{then-loop-end-test+else-spans-end, else-loop-end-test}

pub returns : goal.returns
returns c =
    let spans = c.args.spans.now in
    let n = c.args.number in
    let start = c.loop-end.start in
    let end = c.loop-end.end in
    let many = c.partition_point.result in
    let kept = c.loop-end.invariant in
    let after : end < length spans → n < (at spans end).first = λ low. elim c.loop-end-test.branch as (λ _. n < (at spans end).first) [
      | then-loop-end-test+else-spans-end w ↦ w.if-spans-end.false
      | else-loop-end-test w ↦ omega (arith, low, w.loop-end-test.false)
    ] in
    let point = IsPartitionPoint-from_clause (λ s. leb s.first n) _ many c.partition_point.ensures.partitioned (parted spans n start (end - start) c.requires) (λ a r q k. search rules) in
    let (before, behind) = parted_at n start end many c.requires (omega arith) kept.within kept.before after point in
    record {
      within = omega arith;
      before = before;
      behind = behind;
    }
