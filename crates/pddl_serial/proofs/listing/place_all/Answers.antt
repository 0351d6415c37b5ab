use Rattle.std.proofs.Common.{rules, arith, sym, ap, ◌∙◌, ◌≡◌, ◌<◌, ℕ, eqb, length}
use Rattle.std.specs.List.{list_any}
use Rattle.pddl_serial.proofs.Placed.{placed_none, steps_below, placed_more}
use Rattle.pddl_serial.proofs.listing.place_all.Goals as goal

pub loop-h-init : goal.loop-h-init
loop-h-init g c = placed_none (length c.args.places.now) c.args.happenings.now c.requires c.args.places.now

pub mark-requires : goal.mark-requires
mark-requires g c =
    let items = c.args.happenings.now in
    let h = c.loop-h.h in
    let d = c.index-happenings-h.result in
    let same : length c.loop-h.places ≡ length c.args.places.now = search rules in
    let steps : c.deref.result.now ≡ d.steps = search rules in
    λ k on.
    let b : k < length c.args.places.now = steps_below (length c.args.places.now) items c.requires h d c.index-happenings-h.is c.loop-h-test.true k (ap (list_any (eqb k)) (sym steps) ∙ on) in
    omega (arith, b, same)

pub loop-h-preserved : goal.loop-h-preserved
loop-h-preserved g c =
    let items = c.args.happenings.now in
    let h = c.loop-h.h in
    let d = c.index-happenings-h.result in
    let n : ℕ = length c.args.places.now in
    let same : length c.loop-h.places ≡ n = search rules in
    let same_new : length c.mark.new.places ≡ n = search rules in
    let steps : c.deref.result.now ≡ d.steps = search rules in
    λ k lt off.
    let b : k < n = omega (arith, lt, same_new) in
    placed_more n items c.requires h d c.index-happenings-h.is c.loop-h-test.true c.loop-h.places c.mark.new.places c.deref.result.now steps (λ j l. let m : j < length c.loop-h.places = omega (arith, l, same) in c.loop-h.invariant j m) c.mark.ensures k b off
