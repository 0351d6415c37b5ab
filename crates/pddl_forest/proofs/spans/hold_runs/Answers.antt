use Rattle.std.proofs.Common.{◌≡◌, ◌≤◌, ◌<◌, false, length, sym, arith}
use Rattle.std.proofs.lemmas.Bool.Decides.{nat_tests}
use Rattle.pddl_forest.specs.Spans.{hold_all, at}
use Rattle.pddl_forest.proofs.ApartSpans.{rising, one_missed, all_past, one_run}
use Rattle.pddl_forest.proofs.spans.hold_runs.Goals as goal
use Rattle.pddl_forest.proofs.spans.hold_runs.Goals.{else-next-inner-via-then-next-inner+else-inner-next, else-next-inner-via-else-next-inner}

pub returns-then-inner-next : goal.returns-then-inner-next
returns-then-inner-next c =
    sym (one_missed c.loop-span.invariant c.if-next-inner.true (λ j from low. omega (arith, rising c.requires.outer c.loop-span.span-index j from low, c.if-inner-next.true)))

pub loop-span-preserved : goal.loop-span-preserved
loop-span-preserved c =
    let begun = c.begun_by-next.ensures in
    one_run c.loop-span.invariant c.requires.outer c.requires.inner c.loop-span-test.true
    (λ low. elim c.else-next-inner.branch as (λ _. (at c.args.outer.now c.loop-span.span-index).first ≤ (at c.args.inner.now c.loop-span.next).first) [
      | else-next-inner-via-then-next-inner+else-inner-next w ↦ w.if-inner-next.false
      | else-next-inner-via-else-next-inner w ↦ omega (arith, low, w.if-next-inner.false)
    ])
    c.begun_by-next.result begun.within begun.before begun.behind

pub returns : goal.returns
returns c =
    let h = c.loop-span.invariant in
    let missed : c.loop-span.next < length c.args.inner.now → hold_all c.args.outer.now c.args.inner.now ≡ false = λ some. one_missed h some (λ j from low. absurd (omega (arith, from, low, c.loop-span-test.false))) in
    grind (arith, nat_tests, all_past h, missed, h.within)
