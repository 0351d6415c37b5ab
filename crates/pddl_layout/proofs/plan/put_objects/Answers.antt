use Rattle.std.proofs.Common.{◌<◌, ◌≤◌, [], ◌∷◌, length, get_or, sym, ap, arith, refl}
use Rattle.std.specs.Prelude.{Ok}
use Rattle.std.proofs.lemmas.Option.{get_or_from_slice_get}
use Rattle.std.proofs.lemmas.Result.{err_from_is_err_and}
use Rattle.std.proofs.lemmas.List.{take_all}
use Rattle.std.specs.List.{flat_map}
use Rattle.pddl_layout.specs.PlanLayout.{spaced_name}
use Rattle.pddl_layout.proofs.Printed.{nothing, stops_on, stops_more, stops_as, wrote_as, prints_on, element_on, element_stops}
use Rattle.pddl_layout.proofs.plan.put_objects.Goals as goal

pub loop-number-init : goal.loop-number-init
loop-number-init g c = (nothing (g.W.Sink.contents c.args.out.now), refl)

pub returns-in_err-put : goal.returns-in_err-put
returns-in_err-put g c =
    let l = c.loop-number in
    let objects = c.args.step.now.objects in
    let lt : l.number < length objects = omega (arith, c.arity-number-end.ensures, c.loop-number-test.true) in
    let p = err_from_is_err_and c.from_residual.result c.from_residual.ensures.1 in
    rw p.1 (element_stops spaced_name _ _ _ _ _ _ objects l.number [] lt l.invariant (stops_more _ _ _ _ _ _ c.in_err-put.ensures))

pub returns-in_err-put-2 : goal.returns-in_err-put-2
returns-in_err-put-2 g c =
    let l = c.loop-number in
    let contents = g.W.Sink.contents in
    let failures = g.W.Sink.failures in
    let objects = c.args.step.now.objects in
    let lt : l.number < length objects = omega (arith, c.arity-number-end.ensures, c.loop-number-test.true) in
    let here = get_or objects l.number [] in
    let is = sym (get_or_from_slice_get objects l.number c.object.result.now [] c.object.ensures) in
    let p = err_from_is_err_and c.from_residual-in_err-put-2.result c.from_residual-in_err-put-2.ensures.1 in
    let stopped = stops_as (contents c.put.new.out) (contents c.put-in-loop-number.new.out) (failures c.put.new.out) (failures c.put-in-loop-number.new.out) c.object.result.now here is c.in_err-put-2.ensures in
    rw p.1 (element_stops spaced_name _ _ _ _ _ _ objects l.number [] lt l.invariant
    (stops_on (contents l.out) (contents c.put.new.out) (contents c.put-in-loop-number.new.out) (failures l.out) (failures c.put.new.out) (failures c.put-in-loop-number.new.out) (32 ∷ []) here c.in_ok-put.ensures stopped))

pub loop-number-preserved : goal.loop-number-preserved
loop-number-preserved g c =
    let l = c.loop-number in
    let objects = c.args.step.now.objects in
    let lt : l.number < length objects = omega (arith, c.arity-number-end.ensures, c.loop-number-test.true) in
    let here = get_or objects l.number [] in
    let is = sym (get_or_from_slice_get objects l.number c.object.result.now [] c.object.ensures) in
    let wrote = wrote_as _ _ _ _ c.object.result.now here is c.in_ok-put-2.ensures in
    element_on spaced_name _ _ _ _ _ _ objects l.number [] lt l.invariant (prints_on {T = Unit {0}} {E = Unit {0}} _ _ _ _ _ _ (32 ∷ []) here (Ok tt) c.in_ok-put.ensures wrote)

pub returns : goal.returns
returns g c =
    let l = c.loop-number in
    let objects = c.args.step.now.objects in
    let past : length objects ≤ l.number = omega (arith, c.arity-number-end.ensures, c.loop-number-test.false) in
    wrote_as _ _ _ _ _ _ (ap (flat_map spaced_name) (take_all l.number objects past)) l.invariant
