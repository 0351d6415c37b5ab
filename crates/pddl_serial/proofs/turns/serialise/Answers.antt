use Rattle.std.proofs.Common.{◌≡◌, refl, rules, ap}
use Rattle.pddl_judge.specs.HappeningValues.{groups_of}
use Rattle.pddl_serial.specs.Orders.{steps_in, in_order}
use Rattle.pddl_serial.proofs.Further.{list_more, list_end}
use Rattle.pddl_serial.proofs.turns.serialise.Goals as goal

pub loop-happening-preserved : goal.loop-happening-preserved
loop-happening-preserved g c =
    let d = c.happening-item.result in
    let steps : c.deref.result.now ≡ d.steps = search rules in
    list_more (λ hs. in_order c.args.order (groups_of hs)) (λ h. steps_in c.args.order h.steps) refl (λ x xs. refl) c.args.happenings.now c.loop-happening.happening-index c.loop-happening.steps.items c.loop-happening.invariant
    d (steps_in c.args.order c.deref.result.now) c.append_in.new.numbers.items c.loop-happening-test.true c.happening-item.is (ap (steps_in c.args.order) steps) c.in_ok-append_in.ensures

pub returns : goal.returns
returns g c =
    list_end (λ hs. in_order c.args.order (groups_of hs)) (λ h. steps_in c.args.order h.steps) refl (λ x xs. refl) c.args.happenings.now c.loop-happening.happening-index c.loop-happening.steps.items c.loop-happening.invariant c.loop-happening-test.false
