use Rattle.std.proofs.Common.{◌∙◌, ap, arith}
use Rattle.std.proofs.lemmas.List.{drop_all}
use denote.Param.Weighed.{most}
use Rattle.pddl_effect.proofs.effect.Effect.TheLaws.{the_size}
use Rattle.pddl_formula.proofs.Depths.{among}
use Rattle.pddl_effect.proofs.Depths.{under_all}
use Rattle.pddl_faults.proofs.ViewTurns.{effects-drop}
use Rattle.pddl_effect.proofs.Views.{view_and, view_forall}
use Rattle.pddl_types.proofs.Capped.{quantified}
use Rattle.pddl_types.proofs.known.Tables.+effect_ground_size.Goals as goal

pub returns-after-loop-part : goal.returns-after-loop-part
returns-after-loop-part g t c =
    let whole = rw (drop_all c.loop-part.part-index c.deref-part-items.result.now c.loop-part-test.false) at c.loop-part.invariant.whole in
    rw (c.in-And.is, view_and _, ← c.deref-part-items.ensures.value) (omega (arith, whole, c.loop-part.invariant.low))

pub loop-part-preserved : goal.loop-part-preserved
loop-part-preserved g t c =
    let whole = rw (effects-drop c.deref-part-items.result.now c.loop-part.part-index c.part-item.result c.loop-part-test.true, ← c.part-item.is) at c.loop-part.invariant.whole in
    record { low = omega (arith, c.sum-size.ensures); whole = omega (arith, c.sum-size.ensures, c.effect_ground_size.ensures, whole) }

pub effect_ground_size-requires : goal.effect_ground_size-requires
effect_ground_size-requires g t c κs within =
    let size = the_size g.row.N g.N.Allocator g.N.laws in
    let less = under_all g.row.N g.N.Allocator g.N.laws c.args.effect.now c.in-And.parts c.in-And.is in
    let parts = ap (most size) c.deref-part-items.ensures.value in
    (omega (arith, less, parts, among size c.deref-part-items.result.now c.loop-part.part-index c.part-item.result c.loop-part-test.true c.part-item.is, c.decreases), within)

pub returns-in-Forall : goal.returns-in-Forall
returns-in-Forall g t c = rw (c.in-Forall.is, view_forall _ _, ← c.deref.ensures) (c.quantifier_size.ensures ∙ quantified _ _ _ _ c.effect_ground_size-in-Forall.ensures)
