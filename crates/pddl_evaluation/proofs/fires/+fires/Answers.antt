use Rattle.std.proofs.Common.{◌≡◌, ◌||◌, ◌&&◌, ◌∷◌, length, get_or, ap, subst, sym, ◌∙◌, refl}
use Rattle.std.specs.Prelude.{OnOk}
use Rattle.std.specs.List.{list_any}
use Rattle.std.proofs.lemmas.List.{at_drop_all}
use Rattle.std.proofs.lemmas.Result.{IfOk-from_err}
use borrow.Author.Count.{falls}
use Rattle.pddl_state.specs.Atoms.{AtomValue, atom_eq}
use Rattle.pddl_compiled.specs.Views.{change_view, changes_view, frame_view}
use Rattle.pddl_evaluation.specs.Fires.{added, all_added, deleted, all_deleted}
use Rattle.pddl_compiled.proofs.compiled.Change.TheLaws.{the_size}
use Rattle.pddl_evaluation.proofs.Depths.{from_each, from_parts, to_part, to_parts, under_all, under_each, under_when, among}
use Rattle.pddl_evaluation.proofs.Views.{view-Both, view-Each, view-When, view-Add, view-Del, view-Increase, view-IncreaseBy}
use Rattle.pddl_evaluation.proofs.More.{front, front_number, one_more, on_ok, on_any}
use Rattle.pddl_evaluation.proofs.fires.+fires.Goals as goal

pub add_fired-returns-in-And : goal.add_fired-returns-in-And
add_fired-returns-in-And g t c =
    let content = g.S.AtomStore.content in
    let s = content c.args.store.now c.args.state.now in
    let env = frame_view c.args.frame.now in
    let put = c.add_all_fired.ensures in
    let seen = view-Both c.args.change.now c.in-And.parts c.deref.result.now c.in-And.is c.deref.ensures.value in
    record {
      adds_own = put.adds_own;
      dels_own = put.dels_own;
      others_own = put.others_own;
      others = put.others;
      added = subst (λ v. OnOk c.add_all_fired.result ((x : AtomValue) → content c.add_all_fired.new.store c.add_all_fired.new.adds x ≡ (added s v (atom_eq x) env || content c.args.store.now c.args.adds.now x))) (sym seen) put.added;
      deleted = subst (λ v. OnOk c.add_all_fired.result ((x : AtomValue) → content c.add_all_fired.new.store c.add_all_fired.new.dels x ≡ (deleted s v (atom_eq x) env || content c.args.store.now c.args.dels.now x))) (sym seen) put.deleted;
    }

pub add_fired-returns-in-Forall : goal.add_fired-returns-in-Forall
add_fired-returns-in-Forall g t c =
    let content = g.S.AtomStore.content in
    let s = content c.args.store.now c.args.state.now in
    let env = frame_view c.args.frame.now in
    let put = c.add_fired_of_each.ensures in
    let seen = view-Each c.args.change.now c.in-Forall.range c.in-Forall.inner c.deref-in-Forall.result.now c.deref-in-Forall-2.result.now c.in-Forall.is c.deref-in-Forall.ensures.value c.deref-in-Forall-2.ensures in
    record {
      adds_own = put.adds_own;
      dels_own = put.dels_own;
      others_own = put.others_own;
      others = put.others;
      added = subst (λ v. OnOk c.add_fired_of_each.result ((x : AtomValue) → content c.add_fired_of_each.new.store c.add_fired_of_each.new.adds x ≡ (added s v (atom_eq x) env || content c.args.store.now c.args.adds.now x))) (sym seen) put.added;
      deleted = subst (λ v. OnOk c.add_fired_of_each.result ((x : AtomValue) → content c.add_fired_of_each.new.store c.add_fired_of_each.new.dels x ≡ (deleted s v (atom_eq x) env || content c.args.store.now c.args.dels.now x))) (sym seen) put.deleted;
    }

pub add_fired-returns-in_err-is_true-in-When : goal.add_fired-returns-in_err-is_true-in-When
add_fired-returns-in_err-is_true-in-When g t c =
    record {
      adds_own = c.requires.adds_own;
      dels_own = c.requires.dels_own;
      others_own = λ u h. h;
      others = λ u h. refl;
      added = IfOk-from_err c.from_residual.result _ c.from_residual.ensures.0;
      deleted = IfOk-from_err c.from_residual.result _ c.from_residual.ensures.0;
    }

pub add_fired-returns-in-Increase : goal.add_fired-returns-in-Increase
add_fired-returns-in-Increase g t c =
    let content = g.S.AtomStore.content in
    let s = content c.args.store.now c.args.state.now in
    let env = frame_view c.args.frame.now in
    let seen = view-Increase c.args.change.now c.in-Increase.field-0 c.in-Increase.field-1 c.in-Increase.field-1.items c.in-Increase.is refl in
    record {
      adds_own = c.requires.adds_own;
      dels_own = c.requires.dels_own;
      others_own = λ u h. h;
      others = λ u h. refl;
      added = λ x. ap (λ v. added s v (atom_eq x) env || content c.args.store.now c.args.adds.now x) (sym seen);
      deleted = λ x. ap (λ v. deleted s v (atom_eq x) env || content c.args.store.now c.args.dels.now x) (sym seen);
    }

pub add_fired-returns-in-IncreaseBy : goal.add_fired-returns-in-IncreaseBy
add_fired-returns-in-IncreaseBy g t c =
    let content = g.S.AtomStore.content in
    let s = content c.args.store.now c.args.state.now in
    let env = frame_view c.args.frame.now in
    let seen = view-IncreaseBy c.args.change.now c.in-IncreaseBy.field-0 c.in-IncreaseBy.is in
    record {
      adds_own = c.requires.adds_own;
      dels_own = c.requires.dels_own;
      others_own = λ u h. h;
      others = λ u h. refl;
      added = λ x. ap (λ v. added s v (atom_eq x) env || content c.args.store.now c.args.adds.now x) (sym seen);
      deleted = λ x. ap (λ v. deleted s v (atom_eq x) env || content c.args.store.now c.args.dels.now x) (sym seen);
    }

pub add_fired-returns-in-Add : goal.add_fired-returns-in-Add
add_fired-returns-in-Add g t c =
    let content = g.S.AtomStore.content in
    let s = content c.args.store.now c.args.state.now in
    let env = frame_view c.args.frame.now in
    let put = c.insert_filled.ensures in
    let seen = view-Add c.args.change.now c.in-Add.predicate c.in-Add.places c.deref-in-Add.result.now c.in-Add.is c.deref-in-Add.ensures.value in
    record {
      adds_own = put.own;
      dels_own = put.others_own c.args.dels.now c.requires.dels_own;
      others_own = put.others_own;
      others = put.others;
      added = on_ok c.insert_filled.result put.ok (λ more x. ap (λ r. r x) more ∙ ap (λ v. added s v (atom_eq x) env || content c.args.store.now c.args.adds.now x) (sym seen));
      deleted = on_any c.insert_filled.result (λ x. ap (λ r. r x) (put.others c.args.dels.now c.requires.dels_own) ∙ ap (λ v. deleted s v (atom_eq x) env || content c.args.store.now c.args.dels.now x) (sym seen));
    }

pub add_fired-returns-in-Del : goal.add_fired-returns-in-Del
add_fired-returns-in-Del g t c =
    let content = g.S.AtomStore.content in
    let s = content c.args.store.now c.args.state.now in
    let env = frame_view c.args.frame.now in
    let put = c.insert_filled-in-Del.ensures in
    let seen = view-Del c.args.change.now c.in-Del.predicate c.in-Del.places c.deref-in-Del.result.now c.in-Del.is c.deref-in-Del.ensures.value in
    record {
      adds_own = put.others_own c.args.adds.now c.requires.adds_own;
      dels_own = put.own;
      others_own = put.others_own;
      others = put.others;
      added = on_any c.insert_filled-in-Del.result (λ x. ap (λ r. r x) (put.others c.args.adds.now c.requires.adds_own) ∙ ap (λ v. added s v (atom_eq x) env || content c.args.store.now c.args.adds.now x) (sym seen));
      deleted = on_ok c.insert_filled-in-Del.result put.ok (λ more x. ap (λ r. r x) more ∙ ap (λ v. deleted s v (atom_eq x) env || content c.args.store.now c.args.dels.now x) (sym seen));
    }

pub add_fired-returns-then-branch : goal.add_fired-returns-then-branch
add_fired-returns-then-branch g t c =
    let content = g.S.AtomStore.content in
    let s = content c.args.store.now c.args.state.now in
    let env = frame_view c.args.frame.now in
    let put = c.add_fired.ensures in
    let seen = view-When c.args.change.now c.in-When.condition c.in-When.inner c.deref-then-branch.result.now c.in-When.is c.deref-then-branch.ensures in
    record {
      adds_own = put.adds_own;
      dels_own = put.dels_own;
      others_own = put.others_own;
      others = put.others;
      added = on_ok c.add_fired.result put.added (λ more x. more x ∙ ap (λ b. b || content c.args.store.now c.args.adds.now x) (sym (ap (λ v. added s v (atom_eq x) env) seen ∙ ap (λ b. b && added s (change_view c.deref-then-branch.result.now) (atom_eq x) env) (sym c.in_ok-is_true-in-When.ensures ∙ c.if-branch.true))));
      deleted = on_ok c.add_fired.result put.deleted (λ more x. more x ∙ ap (λ b. b || content c.args.store.now c.args.dels.now x) (sym (ap (λ v. deleted s v (atom_eq x) env) seen ∙ ap (λ b. b && deleted s (change_view c.deref-then-branch.result.now) (atom_eq x) env) (sym c.in_ok-is_true-in-When.ensures ∙ c.if-branch.true))));
    }

pub add_fired-returns-else-branch : goal.add_fired-returns-else-branch
add_fired-returns-else-branch g t c =
    let content = g.S.AtomStore.content in
    let s = content c.args.store.now c.args.state.now in
    let env = frame_view c.args.frame.now in
    let seen = view-When c.args.change.now c.in-When.condition c.in-When.inner c.in-When.inner.value c.in-When.is refl in
    record {
      adds_own = c.requires.adds_own;
      dels_own = c.requires.dels_own;
      others_own = λ u h. h;
      others = λ u h. refl;
      added = λ x. ap (λ b. b || content c.args.store.now c.args.adds.now x) (sym (ap (λ v. added s v (atom_eq x) env) seen ∙ ap (λ b. b && added s (change_view c.in-When.inner.value) (atom_eq x) env) (sym c.in_ok-is_true-in-When.ensures ∙ c.if-branch.false)));
      deleted = λ x. ap (λ b. b || content c.args.store.now c.args.dels.now x) (sym (ap (λ v. deleted s v (atom_eq x) env) seen ∙ ap (λ b. b && deleted s (change_view c.in-When.inner.value) (atom_eq x) env) (sym c.in_ok-is_true-in-When.ensures ∙ c.if-branch.false)));
    }

pub add_fired-add_all_fired-requires : goal.add_fired-add_all_fired-requires
add_fired-add_all_fired-requires g t c κs within =
    (to_parts _ _ t (under_all g.row.A g.A.Allocator g.A.laws c.args.change.now c.deref.result.now c.in-And.parts c.in-And.is c.deref.ensures.value) c.decreases, (within.0, (within.1.0, (within.1.1.0, (within.1.1.1, (c.requires.state_own, (c.requires.adds_own, c.requires.dels_own)))))))

pub add_fired-add_fired_of_each-requires : goal.add_fired-add_fired_of_each-requires
add_fired-add_fired_of_each-requires g t c κs within =
    (to_parts _ _ t (under_each g.row.A g.A.Allocator g.A.laws c.args.change.now c.deref-in-Forall-2.result.now c.in-Forall.range c.in-Forall.inner c.in-Forall.is c.deref-in-Forall-2.ensures) c.decreases, (within.0, (within.1.0, (within.1.1.0, (within.1.1.1, (c.requires.state_own, (c.requires.adds_own, c.requires.dels_own)))))))

pub add_fired-add_fired-requires : goal.add_fired-add_fired-requires
add_fired-add_fired-requires g t c κs within =
    (to_part _ _ t (under_when g.row.A g.A.Allocator g.A.laws c.args.change.now c.deref-then-branch.result.now c.in-When.condition c.in-When.inner c.in-When.is c.deref-then-branch.ensures) c.decreases, (within.0, (within.1.0, (within.1.1.0, (within.1.1.1, (c.requires.state_own, (c.requires.adds_own, c.requires.dels_own)))))))

pub add_all_fired-add_fired-requires : goal.add_all_fired-add_fired-requires
add_all_fired-add_fired-requires g t c κs within =
    (from_parts _ _ t (among (λ e. the_size g.row.A g.A.Allocator g.A.laws e) c.args.changes.now c.loop-change.change-index c.change-item.result c.loop-change-test.true c.change-item.is) c.decreases, (within.0, (within.1.0, (within.1.1.0, (within.1.1.1, (c.loop-change.invariant.others_own c.args.state.now c.requires.state_own, (c.loop-change.invariant.adds_own, c.loop-change.invariant.dels_own)))))))

pub add_all_fired-returns-in_err-add_fired : goal.add_all_fired-returns-in_err-add_fired
add_all_fired-returns-in_err-add_fired g t c =
    let old = c.loop-change.invariant in
    let put = c.add_fired.ensures in
    record {
      adds_own = put.adds_own;
      dels_own = put.dels_own;
      others_own = λ u h. put.others_own u (old.others_own u h);
      others = λ u h. put.others u (old.others_own u h) ∙ old.others u h;
      added = IfOk-from_err c.from_residual.result _ c.from_residual.ensures.0;
      deleted = IfOk-from_err c.from_residual.result _ c.from_residual.ensures.0;
    }

pub add_all_fired-loop-change-smaller : goal.add_all_fired-loop-change-smaller
add_all_fired-loop-change-smaller g t c = falls (length c.args.changes.now) c.loop-change.change-index c.loop-change-test.true

pub add_all_fired-loop-change-preserved : goal.add_all_fired-loop-change-preserved
add_all_fired-loop-change-preserved g t c =
    let content = g.S.AtomStore.content in
    let s = content c.args.store.now c.args.state.now in
    let env = frame_view c.args.frame.now in
    let old = c.loop-change.invariant in
    let put = c.in_ok-add_fired.ensures in
    let same = old.others c.args.state.now c.requires.state_own in
    let next = front c.args.changes.now c.loop-change.change-index c.change-item.result c.loop-change-test.true c.change-item.is in
    record {
      adds_own = put.adds_own;
      dels_own = put.dels_own;
      others_own = λ u h. put.others_own u (old.others_own u h);
      others = λ u h. put.others u (old.others_own u h) ∙ old.others u h;
      added_rest = λ x. old.added_rest x ∙ one_more (λ cs. all_added s (changes_view cs) (atom_eq x) env) (λ k. added s (change_view k) (atom_eq x) env) next (λ y ys. refl) _ _ (put.added x ∙ ap (λ r. added r (change_view c.change-item.result) (atom_eq x) env || content c.loop-change.store c.loop-change.adds x) same);
      deleted_rest = λ x. old.deleted_rest x ∙ one_more (λ cs. all_deleted s (changes_view cs) (atom_eq x) env) (λ k. deleted s (change_view k) (atom_eq x) env) next (λ y ys. refl) _ _ (put.deleted x ∙ ap (λ r. deleted r (change_view c.change-item.result) (atom_eq x) env || content c.loop-change.store c.loop-change.dels x) same);
    }

pub add_all_fired-returns : goal.add_all_fired-returns
add_all_fired-returns g t c =
    let content = g.S.AtomStore.content in
    let s = content c.args.store.now c.args.state.now in
    let env = frame_view c.args.frame.now in
    let old = c.loop-change.invariant in
    record {
      adds_own = old.adds_own;
      dels_own = old.dels_own;
      others_own = old.others_own;
      others = old.others;
      added = λ x. sym (old.added_rest x ∙ ap (λ b. b || content c.loop-change.store c.loop-change.adds x) (at_drop_all (λ cs. all_added s (changes_view cs) (atom_eq x) env) c.args.changes.now c.loop-change.change-index c.loop-change-test.false));
      deleted = λ x. sym (old.deleted_rest x ∙ ap (λ b. b || content c.loop-change.store c.loop-change.dels x) (at_drop_all (λ cs. all_deleted s (changes_view cs) (atom_eq x) env) c.args.changes.now c.loop-change.change-index c.loop-change-test.false));
    }

pub add_fired_of_each-add_fired-requires : goal.add_fired_of_each-add_fired-requires
add_fired_of_each-add_fired-requires g t c κs within =
    (from_each _ t c.decreases, (within.0, (within.1.0, (within.1.1.0, (within.1.1.1, (c.loop-object.invariant.others_own c.args.state.now c.requires.state_own, (c.loop-object.invariant.adds_own, c.loop-object.invariant.dels_own)))))))

pub add_fired_of_each-returns-in_err-add_fired : goal.add_fired_of_each-returns-in_err-add_fired
add_fired_of_each-returns-in_err-add_fired g t c =
    let old = c.loop-object.invariant in
    let put = c.add_fired.ensures in
    record {
      adds_own = put.adds_own;
      dels_own = put.dels_own;
      others_own = λ u h. put.others_own u (old.others_own u h);
      others = λ u h. put.others u (old.others_own u h) ∙ old.others u h;
      added = IfOk-from_err c.from_residual.result _ c.from_residual.ensures.0;
      deleted = IfOk-from_err c.from_residual.result _ c.from_residual.ensures.0;
    }

pub add_fired_of_each-loop-object-smaller : goal.add_fired_of_each-loop-object-smaller
add_fired_of_each-loop-object-smaller g t c = falls (length c.args.range.now) c.loop-object.object-index c.loop-object-test.true

pub add_fired_of_each-loop-object-preserved : goal.add_fired_of_each-loop-object-preserved
add_fired_of_each-loop-object-preserved g t c =
    let content = g.S.AtomStore.content in
    let s = content c.args.store.now c.args.state.now in
    let env = frame_view c.args.frame.now in
    let old = c.loop-object.invariant in
    let put = c.in_ok-add_fired.ensures in
    let same = old.others c.args.state.now c.requires.state_own in
    let next = front_number c.args.range.now c.loop-object.object-index c.loop-object-test.true in
    record {
      adds_own = put.adds_own;
      dels_own = put.dels_own;
      others_own = λ u h. put.others_own u (old.others_own u h);
      others = λ u h. put.others u (old.others_own u h) ∙ old.others u h;
      added_rest = λ x. old.added_rest x ∙ one_more (list_any (λ o. added s (change_view c.args.change.now) (atom_eq x) (o ∷ env))) (λ o. added s (change_view c.args.change.now) (atom_eq x) (o ∷ env)) next (λ y ys. refl) _ _ (put.added x ∙ ap (λ r. added r (change_view c.args.change.now) (atom_eq x) (get_or c.args.range.now c.loop-object.object-index 0 ∷ env) || content c.loop-object.store c.loop-object.adds x) same);
      deleted_rest = λ x. old.deleted_rest x ∙ one_more (list_any (λ o. deleted s (change_view c.args.change.now) (atom_eq x) (o ∷ env))) (λ o. deleted s (change_view c.args.change.now) (atom_eq x) (o ∷ env)) next (λ y ys. refl) _ _ (put.deleted x ∙ ap (λ r. deleted r (change_view c.args.change.now) (atom_eq x) (get_or c.args.range.now c.loop-object.object-index 0 ∷ env) || content c.loop-object.store c.loop-object.dels x) same);
    }

pub add_fired_of_each-returns : goal.add_fired_of_each-returns
add_fired_of_each-returns g t c =
    let content = g.S.AtomStore.content in
    let s = content c.args.store.now c.args.state.now in
    let env = frame_view c.args.frame.now in
    let old = c.loop-object.invariant in
    record {
      adds_own = old.adds_own;
      dels_own = old.dels_own;
      others_own = old.others_own;
      others = old.others;
      added = λ x. sym (old.added_rest x ∙ ap (λ b. b || content c.loop-object.store c.loop-object.adds x) (at_drop_all (list_any (λ o. added s (change_view c.args.change.now) (atom_eq x) (o ∷ env))) c.args.range.now c.loop-object.object-index c.loop-object-test.false));
      deleted = λ x. sym (old.deleted_rest x ∙ ap (λ b. b || content c.loop-object.store c.loop-object.dels x) (at_drop_all (list_any (λ o. deleted s (change_view c.args.change.now) (atom_eq x) (o ∷ env))) c.args.range.now c.loop-object.object-index c.loop-object-test.false));
    }
