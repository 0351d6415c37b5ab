use Rattle.std.proofs.Common.{◌<◌, ◌∙◌, inl, inr, arith}
use Rattle.std.proofs.lemmas.List.{drop_all}
use Rattle.pddl_faults.proofs.ViewTurns.{formulas-drop}
use Rattle.pddl_formula.proofs.formula.Formula.TheLaws.{the_size}
use Rattle.pddl_formula.proofs.Views.{view_and, view_or, view_exists, view_forall}
use Rattle.pddl_formula.proofs.Depths.{among, under_and, under_or}
use denote.Param.Weighed.{most}
use Rattle.pddl_types.proofs.Capped.{quantified}
use Rattle.pddl_types.proofs.known.Tables.+ground_size.Goals as goal

pub returns-after-loop-part : goal.returns-after-loop-part
returns-after-loop-part g t c =
    let whole = rw (drop_all c.loop-part.part-index c.deref-part-items.result.now c.loop-part-test.false) at c.loop-part.invariant.whole in
    elim c.in-And.is [
      | inl is ↦ rw (is, view_and _, ← c.deref-part-items.ensures.value) (omega (arith, whole, c.loop-part.invariant.low))
      | inr is ↦ rw (is, view_or _, ← c.deref-part-items.ensures.value) (omega (arith, whole, c.loop-part.invariant.low))
    ]

pub loop-part-preserved : goal.loop-part-preserved
loop-part-preserved g t c =
    let whole = rw (formulas-drop c.deref-part-items.result.now c.loop-part.part-index c.part-item.result c.loop-part-test.true, ← c.part-item.is) at c.loop-part.invariant.whole in
    record { low = omega (arith, c.sum-size.ensures); whole = omega (arith, c.sum-size.ensures, c.ground_size-in-loop-part.ensures, whole) }

pub ground_size-requires-in-loop-part : goal.ground_size-requires-in-loop-part
ground_size-requires-in-loop-part g t c κs within =
    let size = the_size g.row.N g.N.Allocator g.N.laws in
    let f = c.args.formula.now in
    let parts = c.deref-part-items.result.now in
    let less : most size parts < size f = elim c.in-And.is [
      | inl is ↦ under_and g.row.N g.N.Allocator g.N.laws f parts _ is c.deref-part-items.ensures.value
      | inr is ↦ under_or g.row.N g.N.Allocator g.N.laws f parts _ is c.deref-part-items.ensures.value
    ] in
    (omega (arith, less, among size parts c.loop-part.part-index c.part-item.result c.loop-part-test.true c.part-item.is, c.decreases), within)

pub returns-in-Exists : goal.returns-in-Exists
returns-in-Exists g t c =
    let size = c.quantifier_size.ensures ∙ quantified _ _ _ _ c.ground_size-in-Exists.ensures in
    elim c.in-Exists.is [ inl is ↦ rw (is, view_exists _ _, ← c.deref-in-Exists.ensures) size | inr is ↦ rw (is, view_forall _ _, ← c.deref-in-Exists.ensures) size ]
