use Rattle.std.proofs.Common.{◌≡◌, Bool, false, ◌&&◌, ◌||◌, Ok, Err, MatchOption, ap, arith, ◌∙◌}
use Rattle.std.specs.Prelude.{IfOk, IfSome, true}
use Rattle.pddl_state.specs.AtomSets.{AreDisjoint, IsLowerBound, intersection, union}
use Rattle.pddl_judge.specs.Touches.{touch_in, crossing, overlap, Apart}
use Rattle.pddl_judge.specs.Verdicts.{IsLeast}
use Rattle.pddl_judge.proofs.Atoms.{least_of_itself}
use Rattle.pddl_judge.proofs.touch.least_clash.Goals as goal

both_ways : (xr xa xd yr ya yd : Bool) → ((false || (((xa && yr) || (xd && yr)) || (xa && yd))) || (((ya && xr) || (yd && xr)) || (ya && xd))) ≡ (((xa || xd) && yr) || (((ya || yd) && xr) || ((xa && yd) || (ya && xd))))
both_ways xr xa xd yr ya yd = grind arith

pub returns : goal.returns
returns g c =
    let content = g.S.AtomStore.content c.args.store.now in
    let one = touch_in content c.args.one.now in
    let other = touch_in content c.args.other.now in
    let clash = content c.add_crossing-2.new.all in
    let united : clash ≡ union (union (λ x. false) (crossing one other)) (crossing other one) = c.in_ok-add_crossing-2.ensures.content ∙ ap (λ s. union s (crossing other one)) (c.in_ok-add_crossing.ensures.content ∙ ap (λ s. union s (crossing one other)) c.empty-clash.ensures.content) in
    elim c.common.result as (λ r. IfOk r (λ o. MatchOption o (AreDisjoint clash clash) (λ x. intersection clash clash x ≡ true)) → IfOk r (λ o. IfSome o (λ x. IsLowerBound x (intersection clash clash))) → IfOk r (λ o. MatchOption o (Apart one other) (λ a. IsLeast a (overlap one other)))) [
      | Ok o ↦ least_of_itself o clash (overlap one other) (λ x. (λ i. united i x) ∙ both_ways (one.reads x) (one.adds x) (one.dels x) (other.reads x) (other.adds x) (other.dels x))
      | Err _ ↦ λ _ _. tt
    ] c.common.ensures.common c.common.ensures.least
