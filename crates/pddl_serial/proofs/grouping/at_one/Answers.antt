use Rattle.std.proofs.Common.{get_or, refl, eq-eqb}
use Rattle.std.specs.List.{list_all}
use Rattle.std.specs.Prelude.{◌==◌}
use Rattle.pddl_judge.proofs.Overlaps.{default}
use Rattle.pddl_serial.proofs.Further.{all_more}
use Rattle.pddl_serial.proofs.grouping.at_one.Goals as goal

pub loop-step-preserved : goal.loop-step-preserved
loop-step-preserved c =
    let group = c.args.group.now in
    let place = get_or c.args.places.now (get_or group 0 0) 0 in
    let i = c.loop-step.step-index in
    let here = get_or c.args.places.now (get_or group i 0) 0 in
    all_more (list_all (λ j. get_or c.args.places.now j 0 == place)) (λ j. get_or c.args.places.now j 0 == place) refl (λ x xs. refl) group i c.loop-step.invariant (get_or group i 0) c.loop-step-test.true (default group i 0 (get_or group i 0) c.loop-step-test.true) (eq-eqb here place c.if-places-step.false)
