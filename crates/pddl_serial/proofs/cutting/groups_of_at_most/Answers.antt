use Rattle.std.proofs.Common.{◌≡◌, map, refl, rules, ap}
use Rattle.pddl_judge.specs.HappeningValues.{groups_of}
use Rattle.pddl_serial.specs.Cuts.{cut, cut_in_order}
use Rattle.pddl_serial.specs.Orders.{steps_in}
use Rattle.pddl_serial.proofs.Further.{list_more, list_end}
use Rattle.pddl_serial.proofs.cutting.groups_of_at_most.Goals as goal

pub loop-happening-preserved : goal.loop-happening-preserved
loop-happening-preserved g c =
    let d = c.happening-item.result in
    let steps : c.deref.result.now ≡ d.steps = search rules in
    list_more (λ hs. cut_in_order c.args.size c.args.order (groups_of hs)) (λ h. cut c.args.size (steps_in c.args.order h.steps)) refl (λ x xs. refl) c.args.happenings.now c.loop-happening.happening-index (map (λ g. g.items) c.loop-happening.groups.items) c.loop-happening.invariant
    d (cut c.args.size (steps_in c.args.order c.deref.result.now)) (map (λ g. g.items) c.add_groups.new.groups.items) c.loop-happening-test.true c.happening-item.is (ap (λ l. cut c.args.size (steps_in c.args.order l)) steps) c.in_ok-add_groups.ensures

pub returns : goal.returns
returns g c =
    list_end (λ hs. cut_in_order c.args.size c.args.order (groups_of hs)) (λ h. cut c.args.size (steps_in c.args.order h.steps)) refl (λ x xs. refl) c.args.happenings.now c.loop-happening.happening-index (map (λ g. g.items) c.loop-happening.groups.items) c.loop-happening.invariant c.loop-happening-test.false
