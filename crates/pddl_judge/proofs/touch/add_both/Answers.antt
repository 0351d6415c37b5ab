use Rattle.std.proofs.Common.{◌≡◌, refl, ap, ◌∙◌, subst}
use Rattle.std.specs.Prelude.{Bool, true, false, not, ◌&&◌, OnOk}
use Rattle.pddl_state.specs.AtomSets.{difference, intersection, union}
use Rattle.pddl_judge.proofs.touch.add_both.Goals as goal

-- what is in one and not outside the other is in both
both_ways : (x y : Bool) → (x && not (x && not y)) ≡ (x && y)
both_ways true true = refl
both_ways true false = refl
both_ways false y = refl

pub returns-clause-own : goal.returns-clause-own
returns-clause-own g c = c.unite.ensures.own

pub returns-clause-content : goal.returns-clause-content
returns-clause-content g c =
    let content = g.S.AtomStore.content c.args.store.now in
    let a = content c.args.a.now in
    let b = content c.args.b.now in
    let common : content c.in_ok-common.common ≡ intersection a b = c.in_ok-common.ensures.content ∙ (ap (difference a) c.in_ok-rest.ensures.content ∙ (λ i x. both_ways (a x) (b x) i)) in
    subst (λ s. OnOk c.unite.result (content c.unite.new.set ≡ union (content c.args.all.now) s)) common c.unite.ensures.ok
