use Rattle.std.proofs.Common.{◌++◌}
use Rattle.std.specs.Prelude.{codes}
use Rattle.std.proofs.lemmas.Result.{err_from_is_err_and}
use Rattle.pddl_layout.specs.PlanLayout.{spaced}
use Rattle.pddl_layout.proofs.Printed.{stops_on, stops_more, stops_as, wrote_as}
use Rattle.pddl_layout.proofs.plan.put_plain.Goals as goal

pub returns-in_err-put-2 : goal.returns-in_err-put-2
returns-in_err-put-2 g c =
    let contents = g.W.Sink.contents in
    let failures = g.W.Sink.failures in
    let action = c.args.step.now.action in
    let rest = spaced c.args.step.now.objects ++ codes ")\n" in
    let p = err_from_is_err_and c.from_residual-in_err-put-2.result c.from_residual-in_err-put-2.ensures.1 in
    let stopped = stops_as (contents c.put.new.out) (contents c.put-2.new.out) (failures c.put.new.out) (failures c.put-2.new.out) c.action.result.now action c.action.ensures c.in_err-put-2.ensures in
    rw p.1 (stops_on (contents c.args.out.now) (contents c.put.new.out) (contents c.put-2.new.out) (failures c.args.out.now) (failures c.put.new.out) (failures c.put-2.new.out) (codes "(") (action ++ rest) c.in_ok-put.ensures
    (stops_more (contents c.put.new.out) (contents c.put-2.new.out) (failures c.put.new.out) (failures c.put-2.new.out) action rest stopped))

pub returns-in_err-put_objects : goal.returns-in_err-put_objects
returns-in_err-put_objects g c =
    let contents = g.W.Sink.contents in
    let failures = g.W.Sink.failures in
    let action = c.args.step.now.action in
    let objects = spaced c.args.step.now.objects in
    let p = err_from_is_err_and c.from_residual-in_err-put_objects.result c.from_residual-in_err-put_objects.ensures.1 in
    let wrote = wrote_as (contents c.put.new.out) (contents c.put-2.new.out) (failures c.put.new.out) (failures c.put-2.new.out) c.action.result.now action c.action.ensures c.in_ok-put-2.ensures in
    let stopped = c.in_err-put_objects.ensures in
    rw p.1 (stops_on (contents c.args.out.now) (contents c.put.new.out) (contents c.put_objects.new.out) (failures c.args.out.now) (failures c.put.new.out) (failures c.put_objects.new.out) (codes "(") (action ++ (objects ++ codes ")\n")) c.in_ok-put.ensures
    (stops_on (contents c.put.new.out) (contents c.put-2.new.out) (contents c.put_objects.new.out) (failures c.put.new.out) (failures c.put-2.new.out) (failures c.put_objects.new.out) action (objects ++ codes ")\n") wrote
    (stops_more (contents c.put-2.new.out) (contents c.put_objects.new.out) (failures c.put-2.new.out) (failures c.put_objects.new.out) objects (codes ")\n") stopped)))

pub returns-in_err-put-3 : goal.returns-in_err-put-3
returns-in_err-put-3 g c =
    let contents = g.W.Sink.contents in
    let failures = g.W.Sink.failures in
    let action = c.args.step.now.action in
    let objects = spaced c.args.step.now.objects in
    let p = err_from_is_err_and c.from_residual-in_err-put-3.result c.from_residual-in_err-put-3.ensures.1 in
    let wrote = wrote_as (contents c.put.new.out) (contents c.put-2.new.out) (failures c.put.new.out) (failures c.put-2.new.out) c.action.result.now action c.action.ensures c.in_ok-put-2.ensures in
    let spaced_out = c.in_ok-put_objects.ensures in
    rw p.1 (stops_on (contents c.args.out.now) (contents c.put.new.out) (contents c.put-3.new.out) (failures c.args.out.now) (failures c.put.new.out) (failures c.put-3.new.out) (codes "(") (action ++ (objects ++ codes ")\n")) c.in_ok-put.ensures
    (stops_on (contents c.put.new.out) (contents c.put-2.new.out) (contents c.put-3.new.out) (failures c.put.new.out) (failures c.put-2.new.out) (failures c.put-3.new.out) action (objects ++ codes ")\n") wrote
    (stops_on (contents c.put-2.new.out) (contents c.put_objects.new.out) (contents c.put-3.new.out) (failures c.put-2.new.out) (failures c.put_objects.new.out) (failures c.put-3.new.out) objects (codes ")\n") spaced_out c.in_err-put-3.ensures)))
