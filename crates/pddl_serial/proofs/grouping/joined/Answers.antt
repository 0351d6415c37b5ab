use Rattle.std.proofs.Common.{map, refl}
use Rattle.std.specs.List.{concat}
use Rattle.pddl_serial.proofs.Further.{list_more, list_end}
use Rattle.pddl_serial.proofs.grouping.joined.Goals as goal

pub loop-group-preserved : goal.loop-group-preserved
loop-group-preserved g c =
    list_more (λ gs. concat (map (λ g. g.items) gs)) (λ g. g.items) refl (λ x xs. refl) c.args.groups.now c.loop-group.group-index c.loop-group.steps.items c.loop-group.invariant
    c.group-item.result c.deref.result.now c.extend_from_slice.new.self.items c.loop-group-test.true c.group-item.is c.deref.ensures.value c.in_ok-extend_from_slice.ensures.items

pub returns : goal.returns
returns g c =
    list_end (λ gs. concat (map (λ g. g.items) gs)) (λ g. g.items) refl (λ x xs. refl) c.args.groups.now c.loop-group.group-index c.loop-group.steps.items c.loop-group.invariant c.loop-group-test.false
