use Rattle.std.proofs.Common.{arith, ◌≤◌, ◌≡◌, ◌∷◌, cond, length, ap, ◌∙◌, subst, sym, refl}
use Rattle.std.specs.Prelude.{IfOk, sum_by}
use Rattle.std.proofs.lemmas.List.{at_drop_all}
use Rattle.std.proofs.lemmas.List.Sums.{sum_by-cons}
use Rattle.std.proofs.lemmas.Result.{IfOk-from_err}
use borrow.Author.Count.{falls}
use Rattle.pddl_compiled.specs.CompiledMeaning.{spent, spent_in}
use Rattle.pddl_compiled.specs.Views.{change_view, changes_view, frame_view}
use Rattle.pddl_evaluation.specs.Costs.{most_increases, increases_of, increases_in, IsWithin}
use Rattle.pddl_compiled.proofs.compiled.Change.TheLaws.{the_size}
use Rattle.pddl_evaluation.proofs.Depths.{from_each, from_parts, to_part, to_parts, under_all, under_each, under_when, among}
use Rattle.pddl_evaluation.proofs.Views.{view-Both, view-Each, view-When, view-Add, view-Del, view-Increase, view-IncreaseBy}
use Rattle.pddl_evaluation.proofs.More.{front, front_number, sum_more, room_more, few_more, sum_done, room_done, none_within}
use Rattle.pddl_evaluation.proofs.costs.+costs.Goals as goal

pub spent-returns-in-And : goal.spent-returns-in-And
spent-returns-in-And g t c =
    let price = g.P.Prices.price c.args.prices.now in
    let s = g.S.AtomStore.content c.args.store.now c.args.state.now in
    let env = frame_view c.args.frame.now in
    let seen = view-Both c.args.change.now c.in-And.parts c.deref.result.now c.in-And.is c.deref.ensures.value in
    record {
      spent = subst (λ v. IfOk c.spent_by_all.result (λ n. n ≡ spent price s v env)) (sym seen) c.spent_by_all.ensures.spent;
      within = subst (λ v. IfOk c.spent_by_all.result (λ n. IsWithin (increases_of v) n)) (sym seen) c.spent_by_all.ensures.within;
    }

pub spent-returns-in-Forall : goal.spent-returns-in-Forall
spent-returns-in-Forall g t c =
    let price = g.P.Prices.price c.args.prices.now in
    let s = g.S.AtomStore.content c.args.store.now c.args.state.now in
    let env = frame_view c.args.frame.now in
    let seen = view-Each c.args.change.now c.in-Forall.range c.in-Forall.inner c.deref-in-Forall.result.now c.deref-in-Forall-2.result.now c.in-Forall.is c.deref-in-Forall.ensures.value c.deref-in-Forall-2.ensures in
    record {
      spent = subst (λ v. IfOk c.spent_by_each.result (λ n. n ≡ spent price s v env)) (sym seen) c.spent_by_each.ensures.spent;
      within = subst (λ v. IfOk c.spent_by_each.result (λ n. IsWithin (increases_of v) n)) (sym seen) c.spent_by_each.ensures.within;
    }

pub spent-returns-in_err-is_true-in-When : goal.spent-returns-in_err-is_true-in-When
spent-returns-in_err-is_true-in-When g t c =
    record {
      spent = IfOk-from_err c.from_residual.result _ c.from_residual.ensures.0;
      within = IfOk-from_err c.from_residual.result _ c.from_residual.ensures.0;
    }

pub spent-returns-in_err-fill-in-Increase : goal.spent-returns-in_err-fill-in-Increase
spent-returns-in_err-fill-in-Increase g t c =
    record {
      spent = IfOk-from_err c.from_residual-in_err-fill-in-Increase.result _ c.from_residual-in_err-fill-in-Increase.ensures.0;
      within = IfOk-from_err c.from_residual-in_err-fill-in-Increase.result _ c.from_residual-in_err-fill-in-Increase.ensures.0;
    }

pub spent-returns-then-branch : goal.spent-returns-then-branch
spent-returns-then-branch g t c =
    let price = g.P.Prices.price c.args.prices.now in
    let s = g.S.AtomStore.content c.args.store.now c.args.state.now in
    let env = frame_view c.args.frame.now in
    let seen = view-When c.args.change.now c.in-When.condition c.in-When.inner c.deref-then-branch.result.now c.in-When.is c.deref-then-branch.ensures in
    let same = ap (λ v. spent price s v env) seen ∙ ap (λ b. cond b (spent price s (change_view c.deref-then-branch.result.now) env) 0) (sym c.in_ok-is_true-in-When.ensures ∙ c.if-branch.true) in
    record {
      spent = subst (λ m. IfOk c.spent.result (λ n. n ≡ m)) (sym same) c.spent.ensures.spent;
      within = subst (λ v. IfOk c.spent.result (λ n. IsWithin (increases_of v) n)) (sym seen) c.spent.ensures.within;
    }

pub spent-returns-else-branch : goal.spent-returns-else-branch
spent-returns-else-branch g t c =
    let price = g.P.Prices.price c.args.prices.now in
    let s = g.S.AtomStore.content c.args.store.now c.args.state.now in
    let env = frame_view c.args.frame.now in
    let seen = view-When c.args.change.now c.in-When.condition c.in-When.inner c.in-When.inner.value c.in-When.is refl in
    let same = ap (λ v. spent price s v env) seen ∙ ap (λ b. cond b (spent price s (change_view c.in-When.inner.value) env) 0) (sym c.in_ok-is_true-in-When.ensures ∙ c.if-branch.false) in
    record {
      spent = sym same;
      within = none_within (increases_of (change_view c.args.change.now));
    }

pub spent-returns-in-Add : goal.spent-returns-in-Add
spent-returns-in-Add g t c =
    let price = g.P.Prices.price c.args.prices.now in
    let s = g.S.AtomStore.content c.args.store.now c.args.state.now in
    let env = frame_view c.args.frame.now in
    let seen = view-Add c.args.change.now c.in-Add.field-0 c.in-Add.field-1 c.in-Add.field-1.items c.in-Add.is refl in
    record {
      spent = ap (λ v. spent price s v env) (sym seen);
      within = none_within (increases_of (change_view c.args.change.now));
    }

pub spent-returns-in-Del : goal.spent-returns-in-Del
spent-returns-in-Del g t c =
    let price = g.P.Prices.price c.args.prices.now in
    let s = g.S.AtomStore.content c.args.store.now c.args.state.now in
    let env = frame_view c.args.frame.now in
    let seen = view-Del c.args.change.now c.in-Del.field-0 c.in-Del.field-1 c.in-Del.field-1.items c.in-Del.is refl in
    record {
      spent = ap (λ v. spent price s v env) (sym seen);
      within = none_within (increases_of (change_view c.args.change.now));
    }

pub spent-returns-in_ok-fill-in-Increase-clause-spent : goal.spent-returns-in_ok-fill-in-Increase-clause-spent
spent-returns-in_ok-fill-in-Increase-clause-spent g t c =
    let price = g.P.Prices.price c.args.prices.now in
    let s = g.S.AtomStore.content c.args.store.now c.args.state.now in
    let env = frame_view c.args.frame.now in
    let seen = view-Increase c.args.change.now c.in-Increase.function c.in-Increase.places c.deref-in-Increase.result.now c.in-Increase.is c.deref-in-Increase.ensures.value in
    c.price.ensures ∙ (ap price c.in_ok-fill-in-Increase.ensures ∙ ap (λ v. spent price s v env) (sym seen))

pub spent-returns-in-IncreaseBy-clause-spent : goal.spent-returns-in-IncreaseBy-clause-spent
spent-returns-in-IncreaseBy-clause-spent g t c =
    let price = g.P.Prices.price c.args.prices.now in
    let s = g.S.AtomStore.content c.args.store.now c.args.state.now in
    let env = frame_view c.args.frame.now in
    let seen = view-IncreaseBy c.args.change.now c.in-IncreaseBy.amount c.in-IncreaseBy.is in
    ap (λ v. spent price s v env) (sym seen)

pub spent-spent_by_all-requires : goal.spent-spent_by_all-requires
spent-spent_by_all-requires g t c κs within =
    (to_parts _ _ t (under_all g.row.A g.A.Allocator g.A.laws c.args.change.now c.deref.result.now c.in-And.parts c.in-And.is c.deref.ensures.value) c.decreases, (within.0, (within.1.0, (within.1.1.0, (within.1.1.1.0, (within.1.1.1.1, (c.requires.own, subst (λ v. increases_of v ≤ most_increases) (view-Both c.args.change.now c.in-And.parts c.deref.result.now c.in-And.is c.deref.ensures.value) c.requires.few)))))))

pub spent-spent_by_each-requires : goal.spent-spent_by_each-requires
spent-spent_by_each-requires g t c κs within =
    (to_parts _ _ t (under_each g.row.A g.A.Allocator g.A.laws c.args.change.now c.deref-in-Forall-2.result.now c.in-Forall.range c.in-Forall.inner c.in-Forall.is c.deref-in-Forall-2.ensures) c.decreases, (within.0, (within.1.0, (within.1.1.0, (within.1.1.1.0, (within.1.1.1.1, (c.requires.own, subst (λ v. increases_of v ≤ most_increases) (view-Each c.args.change.now c.in-Forall.range c.in-Forall.inner c.deref-in-Forall.result.now c.deref-in-Forall-2.result.now c.in-Forall.is c.deref-in-Forall.ensures.value c.deref-in-Forall-2.ensures) c.requires.few)))))))

pub spent-spent-requires : goal.spent-spent-requires
spent-spent-requires g t c κs within =
    (to_part _ _ t (under_when g.row.A g.A.Allocator g.A.laws c.args.change.now c.deref-then-branch.result.now c.in-When.condition c.in-When.inner c.in-When.is c.deref-then-branch.ensures) c.decreases, (within.0, (within.1.0, (within.1.1.0, (within.1.1.1.0, (within.1.1.1.1, (c.requires.own, subst (λ v. increases_of v ≤ most_increases) (view-When c.args.change.now c.in-When.condition c.in-When.inner c.deref-then-branch.result.now c.in-When.is c.deref-then-branch.ensures) c.requires.few)))))))

pub spent_by_all-returns-in_err-total : goal.spent_by_all-returns-in_err-total
spent_by_all-returns-in_err-total g t c =
    record {
      spent = IfOk-from_err c.from_residual.result _ c.from_residual.ensures.0;
      within = IfOk-from_err c.from_residual.result _ c.from_residual.ensures.0;
    }

pub spent_by_all-overflow_add-total : goal.spent_by_all-overflow_add-total
spent_by_all-overflow_add-total g t c =
    let next = front c.args.changes.now c.loop-change.change-index c.change-item.result c.loop-change-test.true c.change-item.is in
    omega (arith, room_more (λ cs. increases_in (changes_view cs)) (λ k. increases_of (change_view k)) (λ y ys. refl) next c.loop-change.total c.in_ok-total.field-0 (increases_in (changes_view c.args.changes.now)) c.in_ok-total.ensures.within c.loop-change.invariant.room, c.requires.few)

pub spent_by_all-loop-change-smaller : goal.spent_by_all-loop-change-smaller
spent_by_all-loop-change-smaller g t c = falls (length c.args.changes.now) c.loop-change.change-index c.loop-change-test.true

pub spent_by_all-loop-change-preserved : goal.spent_by_all-loop-change-preserved
spent_by_all-loop-change-preserved g t c =
    let price = g.P.Prices.price c.args.prices.now in
    let s = g.S.AtomStore.content c.args.store.now c.args.state.now in
    let env = frame_view c.args.frame.now in
    let next = front c.args.changes.now c.loop-change.change-index c.change-item.result c.loop-change-test.true c.change-item.is in
    record {
      rest = sum_more (λ cs. spent_in price s (changes_view cs) env) (λ k. spent price s (change_view k) env) (λ y ys. refl) next c.loop-change.total c.in_ok-total.field-0 _ c.in_ok-total.ensures.spent c.loop-change.invariant.rest;
      room = room_more (λ cs. increases_in (changes_view cs)) (λ k. increases_of (change_view k)) (λ y ys. refl) next c.loop-change.total c.in_ok-total.field-0 (increases_in (changes_view c.args.changes.now)) c.in_ok-total.ensures.within c.loop-change.invariant.room;
    }

pub spent_by_all-returns : goal.spent_by_all-returns
spent_by_all-returns g t c =
    let price = g.P.Prices.price c.args.prices.now in
    let s = g.S.AtomStore.content c.args.store.now c.args.state.now in
    let env = frame_view c.args.frame.now in
    record {
      spent = sum_done c.loop-change.total _ _ (at_drop_all (λ cs. spent_in price s (changes_view cs) env) c.args.changes.now c.loop-change.change-index c.loop-change-test.false) c.loop-change.invariant.rest;
      within = room_done c.loop-change.total _ (increases_in (changes_view c.args.changes.now)) (at_drop_all (λ cs. increases_in (changes_view cs)) c.args.changes.now c.loop-change.change-index c.loop-change-test.false) c.loop-change.invariant.room;
    }

pub spent_by_all-spent-requires : goal.spent_by_all-spent-requires
spent_by_all-spent-requires g t c κs within =
    (from_parts _ _ t (among (λ e. the_size g.row.A g.A.Allocator g.A.laws e) c.args.changes.now c.loop-change.change-index c.change-item.result c.loop-change-test.true c.change-item.is) c.decreases, (within.0, (within.1.0, (within.1.1.0, (within.1.1.1.0, (within.1.1.1.1, (c.requires.own, few_more (λ cs. increases_in (changes_view cs)) (λ k. increases_of (change_view k)) (λ y ys. refl) (front c.args.changes.now c.loop-change.change-index c.change-item.result c.loop-change-test.true c.change-item.is) c.loop-change.total (increases_in (changes_view c.args.changes.now)) c.loop-change.invariant.room c.requires.few)))))))

pub spent_by_each-returns-in_err-total : goal.spent_by_each-returns-in_err-total
spent_by_each-returns-in_err-total g t c =
    record {
      spent = IfOk-from_err c.from_residual.result _ c.from_residual.ensures.0;
      within = IfOk-from_err c.from_residual.result _ c.from_residual.ensures.0;
    }

pub spent_by_each-overflow_add-total : goal.spent_by_each-overflow_add-total
spent_by_each-overflow_add-total g t c =
    let next = front_number c.args.range.now c.loop-object.object-index c.loop-object-test.true in
    omega (arith, room_more (sum_by (λ o. increases_of (change_view c.args.change.now))) (λ o. increases_of (change_view c.args.change.now)) (sum_by-cons (λ o. increases_of (change_view c.args.change.now))) next c.loop-object.total c.in_ok-total.field-0 (sum_by (λ o. increases_of (change_view c.args.change.now)) c.args.range.now) c.in_ok-total.ensures.within c.loop-object.invariant.room, c.requires.few)

pub spent_by_each-loop-object-smaller : goal.spent_by_each-loop-object-smaller
spent_by_each-loop-object-smaller g t c = falls (length c.args.range.now) c.loop-object.object-index c.loop-object-test.true

pub spent_by_each-loop-object-preserved : goal.spent_by_each-loop-object-preserved
spent_by_each-loop-object-preserved g t c =
    let price = g.P.Prices.price c.args.prices.now in
    let s = g.S.AtomStore.content c.args.store.now c.args.state.now in
    let env = frame_view c.args.frame.now in
    let next = front_number c.args.range.now c.loop-object.object-index c.loop-object-test.true in
    record {
      rest = sum_more (sum_by (λ o. spent price s (change_view c.args.change.now) (o ∷ env))) (λ o. spent price s (change_view c.args.change.now) (o ∷ env)) (sum_by-cons (λ o. spent price s (change_view c.args.change.now) (o ∷ env))) next c.loop-object.total c.in_ok-total.field-0 _ c.in_ok-total.ensures.spent c.loop-object.invariant.rest;
      room = room_more (sum_by (λ o. increases_of (change_view c.args.change.now))) (λ o. increases_of (change_view c.args.change.now)) (sum_by-cons (λ o. increases_of (change_view c.args.change.now))) next c.loop-object.total c.in_ok-total.field-0 (sum_by (λ o. increases_of (change_view c.args.change.now)) c.args.range.now) c.in_ok-total.ensures.within c.loop-object.invariant.room;
    }

pub spent_by_each-returns : goal.spent_by_each-returns
spent_by_each-returns g t c =
    let price = g.P.Prices.price c.args.prices.now in
    let s = g.S.AtomStore.content c.args.store.now c.args.state.now in
    let env = frame_view c.args.frame.now in
    record {
      spent = sum_done c.loop-object.total _ _ (at_drop_all (sum_by (λ o. spent price s (change_view c.args.change.now) (o ∷ env))) c.args.range.now c.loop-object.object-index c.loop-object-test.false) c.loop-object.invariant.rest;
      within = room_done c.loop-object.total _ (sum_by (λ o. increases_of (change_view c.args.change.now)) c.args.range.now) (at_drop_all (sum_by (λ o. increases_of (change_view c.args.change.now))) c.args.range.now c.loop-object.object-index c.loop-object-test.false) c.loop-object.invariant.room;
    }

pub spent_by_each-spent-requires : goal.spent_by_each-spent-requires
spent_by_each-spent-requires g t c κs within =
    (from_each _ t c.decreases, (within.0, (within.1.0, (within.1.1.0, (within.1.1.1.0, (within.1.1.1.1, (c.requires.own, few_more (sum_by (λ o. increases_of (change_view c.args.change.now))) (λ o. increases_of (change_view c.args.change.now)) (sum_by-cons (λ o. increases_of (change_view c.args.change.now))) (front_number c.args.range.now c.loop-object.object-index c.loop-object-test.true) c.loop-object.total (sum_by (λ o. increases_of (change_view c.args.change.now)) c.args.range.now) c.loop-object.invariant.room c.requires.few)))))))
