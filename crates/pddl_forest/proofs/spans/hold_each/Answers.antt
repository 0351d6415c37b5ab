use Rattle.std.proofs.Common.{sym, ◌∙◌, arith}
use Rattle.std.proofs.lemmas.Bool.{false_from_ne_true, true≢false}
use Rattle.std.proofs.lemmas.List.Folds.{list_all_at}
use Rattle.pddl_forest.specs.Spans.{some_holds, at}
use Rattle.pddl_forest.proofs.ApartSpans.{last_holds}
use Rattle.pddl_forest.proofs.spans.hold_each.Goals.{then-behind-eq0-via-then-behind-eq0, then-behind-eq0-via-else-behind-eq0+then-not-holds-2}
use Rattle.pddl_forest.proofs.spans.hold_each.Goals as goal

pub returns-then-behind-eq0 : goal.returns-then-behind-eq0
returns-then-behind-eq0 c =
    let outer = c.args.outer.now in
    let n = (at c.args.inner.now c.loop-span.span-index).first in
    let begun = c.begun_by-behind.ensures in
    sym (list_all_at (λ s. some_holds outer s.first) c.args.inner.now c.loop-span.span-index (record { first = 0; last = 0 }) c.loop-span-test.true (false_from_ne_true (some_holds outer n) (λ some.
    let (later, on) = last_holds n _ c.requires begun.within begun.before begun.behind some in
    elim c.then-behind-eq0.branch as (λ _. ⊥) [
      | then-behind-eq0-via-then-behind-eq0 w ↦ omega (arith, later, w.if-behind-eq0.true)
      | then-behind-eq0-via-else-behind-eq0+then-not-holds-2 w ↦ true≢false (sym on ∙ sym w.holds-else-behind-eq0.ensures ∙ w.if-not-holds-2.true)
    ])))
