use Rattle.std.proofs.Common.{ℕ, ◌<◌, Bool, cond, length, map, ap, arith}
use Rattle.std.proofs.lemmas.List.{length-map}
use Rattle.pddl_formula.specs.TypedLists.{TypedValue}
use Rattle.pddl_task.specs.Types.{pairs, fits}
use Rattle.pddl_types.specs.KnownNames.{object_in}
use Rattle.pddl_types.proofs.FittingSpans.{next_fits}
use Rattle.pddl_types.proofs.known.Tables.count_each.Goals as goal
use Rattle.pddl_types.proofs.known.Tables.count_each.Goals.{then-fits, else-fits}

pub loop-number-preserved : goal.loop-number-preserved
loop-number-preserved g c =
    let entries = c.args.self.now.known.listed.objects.entries in
    let low : c.loop-number.number < length (map object_in entries) = omega (arith, c.loop-number-test.true, c.len-number-end.ensures.len, length-map entries object_in) in
    let next = next_fits (λ (o : TypedValue). fits (pairs c.args.self.now.known.types.declared) o.of c.args.slot.now) (map object_in entries) c.loop-number.number c.fits.result low c.fits.ensures in
    let one : Bool → ℕ = λ fit. cond fit 1 0 in
    elim c.if-fits.branch [
      | then-fits w ↦ record { few = omega (arith, w.count-is); many = omega (arith, w.count-is, c.loop-number.invariant.many, next, ap one w.if-fits.true) }
      | else-fits w ↦ record { few = omega (arith, w.count-is); many = omega (arith, w.count-is, c.loop-number.invariant.many, next, ap one w.if-fits.false) }
    ]
