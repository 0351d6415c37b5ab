use Rattle.std.proofs.Common.{map, get_or, refl, sym, ap, ◌∙◌}
use Rattle.std.specs.List.{list_all}
use Rattle.pddl_serial.specs.Inner.Places.{is_at_one}
use Rattle.pddl_serial.proofs.Further.{all_more, not_all, all_end}
use Rattle.pddl_serial.proofs.grouping.all_at_one.Goals as goal

pub loop-group-preserved : goal.loop-group-preserved
loop-group-preserved g c =
    let one = is_at_one (λ k. get_or c.args.places.now k 0) in
    all_more (λ gs. list_all one (map (λ g. g.items) gs)) (λ g. one g.items) refl (λ x xs. refl) c.args.groups.now c.loop-group.group-index c.loop-group.invariant
    c.group-item.result c.loop-group-test.true c.group-item.is (ap one (sym c.deref.ensures.value) ∙ (sym c.at_one.ensures ∙ c.if-not-at_one.false))

pub returns-then-not-at_one : goal.returns-then-not-at_one
returns-then-not-at_one g c =
    let one = is_at_one (λ k. get_or c.args.places.now k 0) in
    not_all (λ gs. list_all one (map (λ g. g.items) gs)) (λ g. one g.items) refl (λ x xs. refl) c.args.groups.now c.loop-group.group-index c.loop-group.invariant
    c.group-item.result c.loop-group-test.true c.group-item.is (ap one (sym c.deref.ensures.value) ∙ (sym c.at_one.ensures ∙ c.if-not-at_one.true))

pub returns : goal.returns
returns g c =
    let one = is_at_one (λ k. get_or c.args.places.now k 0) in
    all_end (λ gs. list_all one (map (λ g. g.items) gs)) (λ g. one g.items) refl (λ x xs. refl) c.args.groups.now c.loop-group.group-index c.loop-group.invariant c.loop-group-test.false
