use Rattle.std.proofs.Common.{sym, ◌∙◌, refl, arith}
use Rattle.std.proofs.lemmas.List.{drop_all, drop_more}
use Rattle.pddl_linked_task.proofs.task.Task.cost.Goals.{in-Value+else-is_asked, in_default}
use Rattle.pddl_linked_task.proofs.task.Task.cost.Goals as goal

pub loop-item-init : goal.loop-item-init
loop-item-init g c = rw (← c.self.view_is, c.deref-item-items.ensures.value) refl

pub loop-item-preserved : goal.loop-item-preserved
loop-item-preserved g c =
    let items = c.deref-item-items.result.now in
    let rest = rw (← c.item-item.is) at (drop_more items c.loop-item.item-index c.item-item.result c.loop-item-test.true) in
    elim c.match-item.branch [
      | in-Value+else-is_asked w ↦ rw (rest, w.in-Value.is, sym w.is_asked.ensures ∙ w.if-is_asked.false) at c.loop-item.invariant
      | in_default w ↦ grind (arith, rest, w.in_default, c.loop-item.invariant)
    ]

pub returns-then-is_asked : goal.returns-then-is_asked
returns-then-is_asked g c =
    let items = c.deref-item-items.result.now in
    let rest = rw (← c.item-item.is) at (drop_more items c.loop-item.item-index c.item-item.result c.loop-item-test.true) in
    rw c.billionths.ensures.value (rw (rest, c.in-Value.is, sym c.is_asked.ensures ∙ c.if-is_asked.true) at c.loop-item.invariant)

pub returns : goal.returns
returns g c = rw (drop_all c.loop-item.item-index c.deref-item-items.result.now c.loop-item-test.false) at c.loop-item.invariant
