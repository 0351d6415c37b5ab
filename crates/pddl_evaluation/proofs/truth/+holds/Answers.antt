use Rattle.std.proofs.Common.{◌≡◌, ◌∷◌, ◌∙◌, not, ◌||◌, eqb, length, ap, subst, sym, refl}
use Rattle.std.specs.Prelude.{IfOk}
use Rattle.std.specs.List.{list_any, list_all}
use Rattle.std.proofs.lemmas.List.{at_drop_all}
use Rattle.std.proofs.lemmas.Result.{IfOk-from_err}
use borrow.Author.Count.{falls}
use Rattle.pddl_compiled.specs.Views.{condition_view, conditions_view, frame_view, place_view}
use Rattle.pddl_compiled.specs.CompiledMeaning.{is_true, are_true, is_some_true, object_in}
use Rattle.pddl_compiled.proofs.Rows.{view_known}
use Rattle.pddl_compiled.proofs.compiled.Condition.TheLaws.{the_size}
use Rattle.pddl_evaluation.proofs.Depths.{from_each, from_parts, to_part, to_parts, under_not, under_imply, under_and, under_or, under_exists, under_forall, among}
use Rattle.pddl_evaluation.proofs.Views.{view-Atom, view-Equal, view-Not, view-Imply, view-And, view-Or, view-Exists, view-Forall}
use Rattle.pddl_evaluation.proofs.More.{front, front_number, any_more, some_one, all_more, not_all}
use Rattle.pddl_evaluation.proofs.truth.+holds.Goals as goal

pub is_true-returns-in-And : goal.is_true-returns-in-And
is_true-returns-in-And g t c =
    let seen = view-And c.args.condition.now c.in-And.parts c.deref-in-And.result.now c.in-And.is c.deref-in-And.ensures.value in
    subst (λ v. IfOk c.are_true.result (λ yes. yes ≡ is_true (g.S.AtomStore.content c.args.store.now c.args.set.now) v (frame_view c.args.frame.now))) (sym seen) c.are_true.ensures

pub is_true-returns-in-Or : goal.is_true-returns-in-Or
is_true-returns-in-Or g t c =
    let seen = view-Or c.args.condition.now c.in-Or.parts c.deref-in-Or.result.now c.in-Or.is c.deref-in-Or.ensures.value in
    subst (λ v. IfOk c.is_some_true.result (λ yes. yes ≡ is_true (g.S.AtomStore.content c.args.store.now c.args.set.now) v (frame_view c.args.frame.now))) (sym seen) c.is_some_true.ensures

pub is_true-returns-in-Exists : goal.is_true-returns-in-Exists
is_true-returns-in-Exists g t c =
    let seen = view-Exists c.args.condition.now c.in-Exists.range c.in-Exists.inner c.deref-in-Exists.result.now c.deref-in-Exists-2.result.now c.in-Exists.is c.deref-in-Exists.ensures.value c.deref-in-Exists-2.ensures in
    subst (λ v. IfOk c.is_true_of_some.result (λ yes. yes ≡ is_true (g.S.AtomStore.content c.args.store.now c.args.set.now) v (frame_view c.args.frame.now))) (sym seen) c.is_true_of_some.ensures

pub is_true-returns-in-Forall : goal.is_true-returns-in-Forall
is_true-returns-in-Forall g t c =
    let seen = view-Forall c.args.condition.now c.in-Forall.range c.in-Forall.inner c.deref-in-Forall.result.now c.deref-in-Forall-2.result.now c.in-Forall.is c.deref-in-Forall.ensures.value c.deref-in-Forall-2.ensures in
    subst (λ v. IfOk c.is_true_of_all.result (λ yes. yes ≡ is_true (g.S.AtomStore.content c.args.store.now c.args.set.now) v (frame_view c.args.frame.now))) (sym seen) c.is_true_of_all.ensures

pub is_true-are_true-requires : goal.is_true-are_true-requires
is_true-are_true-requires g t c κs within =
    (to_parts _ _ t (under_and g.row.A g.A.Allocator g.A.laws c.args.condition.now c.deref-in-And.result.now c.in-And.parts c.in-And.is c.deref-in-And.ensures.value) c.decreases, (within.0, (within.1.0, (within.1.1.0, (within.1.1.1, c.requires)))))

pub is_true-is_some_true-requires : goal.is_true-is_some_true-requires
is_true-is_some_true-requires g t c κs within =
    (to_parts _ _ t (under_or g.row.A g.A.Allocator g.A.laws c.args.condition.now c.deref-in-Or.result.now c.in-Or.parts c.in-Or.is c.deref-in-Or.ensures.value) c.decreases, (within.0, (within.1.0, (within.1.1.0, (within.1.1.1, c.requires)))))

pub are_true-is_true-requires : goal.are_true-is_true-requires
are_true-is_true-requires g t c κs within =
    (from_parts _ _ t (among (λ f. the_size g.row.A g.A.Allocator g.A.laws f) c.args.conditions.now c.loop-condition.condition-index c.condition-item.result c.loop-condition-test.true c.condition-item.is) c.decreases, (within.0, (within.1.0, (within.1.1.0, (within.1.1.1, c.requires)))))

pub is_some_true-is_true-requires : goal.is_some_true-is_true-requires
is_some_true-is_true-requires g t c κs within =
    (from_parts _ _ t (among (λ f. the_size g.row.A g.A.Allocator g.A.laws f) c.args.conditions.now c.loop-condition.condition-index c.condition-item.result c.loop-condition-test.true c.condition-item.is) c.decreases, (within.0, (within.1.0, (within.1.1.0, (within.1.1.1, c.requires)))))

pub are_true-returns-in_err-is_true : goal.are_true-returns-in_err-is_true
are_true-returns-in_err-is_true g t c = IfOk-from_err c.from_residual.result _ c.from_residual.ensures.0

pub are_true-returns-then-not-branch : goal.are_true-returns-then-not-branch
are_true-returns-then-not-branch g t c =
    let s = g.S.AtomStore.content c.args.store.now c.args.set.now in
    let env = frame_view c.args.frame.now in
    let next = front c.args.conditions.now c.loop-condition.condition-index c.condition-item.result c.loop-condition-test.true c.condition-item.is in
    not_all (λ cs. are_true s (conditions_view cs) env) (λ k. is_true s (condition_view k) env) next (λ y ys. refl) _ (sym c.if-not-branch.true ∙ c.in_ok-is_true.ensures) c.loop-condition.invariant

pub are_true-loop-condition-preserved : goal.are_true-loop-condition-preserved
are_true-loop-condition-preserved g t c =
    let s = g.S.AtomStore.content c.args.store.now c.args.set.now in
    let env = frame_view c.args.frame.now in
    let next = front c.args.conditions.now c.loop-condition.condition-index c.condition-item.result c.loop-condition-test.true c.condition-item.is in
    all_more (λ cs. are_true s (conditions_view cs) env) (λ k. is_true s (condition_view k) env) next (λ y ys. refl) _ (sym c.if-not-branch.false ∙ c.in_ok-is_true.ensures) c.loop-condition.invariant

pub are_true-loop-condition-smaller : goal.are_true-loop-condition-smaller
are_true-loop-condition-smaller g t c = falls (length c.args.conditions.now) c.loop-condition.condition-index c.loop-condition-test.true

pub are_true-returns : goal.are_true-returns
are_true-returns g t c =
    let s = g.S.AtomStore.content c.args.store.now c.args.set.now in
    let env = frame_view c.args.frame.now in
    sym (at_drop_all (λ cs. are_true s (conditions_view cs) env) c.args.conditions.now c.loop-condition.condition-index c.loop-condition-test.false) ∙ c.loop-condition.invariant

pub is_some_true-returns-in_err-is_true : goal.is_some_true-returns-in_err-is_true
is_some_true-returns-in_err-is_true g t c = IfOk-from_err c.from_residual.result _ c.from_residual.ensures.0

pub is_some_true-returns-then-branch : goal.is_some_true-returns-then-branch
is_some_true-returns-then-branch g t c =
    let s = g.S.AtomStore.content c.args.store.now c.args.set.now in
    let env = frame_view c.args.frame.now in
    let next = front c.args.conditions.now c.loop-condition.condition-index c.condition-item.result c.loop-condition-test.true c.condition-item.is in
    some_one (λ cs. is_some_true s (conditions_view cs) env) (λ k. is_true s (condition_view k) env) next (λ y ys. refl) _ (sym c.if-branch.true ∙ c.in_ok-is_true.ensures) c.loop-condition.invariant

pub is_some_true-loop-condition-preserved : goal.is_some_true-loop-condition-preserved
is_some_true-loop-condition-preserved g t c =
    let s = g.S.AtomStore.content c.args.store.now c.args.set.now in
    let env = frame_view c.args.frame.now in
    let next = front c.args.conditions.now c.loop-condition.condition-index c.condition-item.result c.loop-condition-test.true c.condition-item.is in
    any_more (λ cs. is_some_true s (conditions_view cs) env) (λ k. is_true s (condition_view k) env) next (λ y ys. refl) _ (sym c.if-branch.false ∙ c.in_ok-is_true.ensures) c.loop-condition.invariant

pub is_some_true-loop-condition-smaller : goal.is_some_true-loop-condition-smaller
is_some_true-loop-condition-smaller g t c = falls (length c.args.conditions.now) c.loop-condition.condition-index c.loop-condition-test.true

pub is_some_true-returns : goal.is_some_true-returns
is_some_true-returns g t c =
    let s = g.S.AtomStore.content c.args.store.now c.args.set.now in
    let env = frame_view c.args.frame.now in
    sym (at_drop_all (λ cs. is_some_true s (conditions_view cs) env) c.args.conditions.now c.loop-condition.condition-index c.loop-condition-test.false) ∙ c.loop-condition.invariant

pub is_true_of_all-returns-in_err-is_true : goal.is_true_of_all-returns-in_err-is_true
is_true_of_all-returns-in_err-is_true g t c = IfOk-from_err c.from_residual.result _ c.from_residual.ensures.0

pub is_true_of_all-returns-then-not-branch : goal.is_true_of_all-returns-then-not-branch
is_true_of_all-returns-then-not-branch g t c =
    let s = g.S.AtomStore.content c.args.store.now c.args.set.now in
    let env = frame_view c.args.frame.now in
    let next = front_number c.args.range.now c.loop-object.object-index c.loop-object-test.true in
    not_all (list_all (λ o. is_true s (condition_view c.args.condition.now) (o ∷ env))) (λ o. is_true s (condition_view c.args.condition.now) (o ∷ env)) next (λ y ys. refl) _ (sym c.if-not-branch.true ∙ c.in_ok-is_true.ensures) c.loop-object.invariant

pub is_true_of_all-loop-object-preserved : goal.is_true_of_all-loop-object-preserved
is_true_of_all-loop-object-preserved g t c =
    let s = g.S.AtomStore.content c.args.store.now c.args.set.now in
    let env = frame_view c.args.frame.now in
    let next = front_number c.args.range.now c.loop-object.object-index c.loop-object-test.true in
    all_more (list_all (λ o. is_true s (condition_view c.args.condition.now) (o ∷ env))) (λ o. is_true s (condition_view c.args.condition.now) (o ∷ env)) next (λ y ys. refl) _ (sym c.if-not-branch.false ∙ c.in_ok-is_true.ensures) c.loop-object.invariant

pub is_true_of_all-loop-object-smaller : goal.is_true_of_all-loop-object-smaller
is_true_of_all-loop-object-smaller g t c = falls (length c.args.range.now) c.loop-object.object-index c.loop-object-test.true

pub is_true_of_all-returns : goal.is_true_of_all-returns
is_true_of_all-returns g t c =
    let s = g.S.AtomStore.content c.args.store.now c.args.set.now in
    let env = frame_view c.args.frame.now in
    sym (at_drop_all (list_all (λ o. is_true s (condition_view c.args.condition.now) (o ∷ env))) c.args.range.now c.loop-object.object-index c.loop-object-test.false) ∙ c.loop-object.invariant

pub is_true_of_some-returns-in_err-is_true : goal.is_true_of_some-returns-in_err-is_true
is_true_of_some-returns-in_err-is_true g t c = IfOk-from_err c.from_residual.result _ c.from_residual.ensures.0

pub is_true_of_some-returns-then-branch : goal.is_true_of_some-returns-then-branch
is_true_of_some-returns-then-branch g t c =
    let s = g.S.AtomStore.content c.args.store.now c.args.set.now in
    let env = frame_view c.args.frame.now in
    let next = front_number c.args.range.now c.loop-object.object-index c.loop-object-test.true in
    some_one (list_any (λ o. is_true s (condition_view c.args.condition.now) (o ∷ env))) (λ o. is_true s (condition_view c.args.condition.now) (o ∷ env)) next (λ y ys. refl) _ (sym c.if-branch.true ∙ c.in_ok-is_true.ensures) c.loop-object.invariant

pub is_true_of_some-loop-object-preserved : goal.is_true_of_some-loop-object-preserved
is_true_of_some-loop-object-preserved g t c =
    let s = g.S.AtomStore.content c.args.store.now c.args.set.now in
    let env = frame_view c.args.frame.now in
    let next = front_number c.args.range.now c.loop-object.object-index c.loop-object-test.true in
    any_more (list_any (λ o. is_true s (condition_view c.args.condition.now) (o ∷ env))) (λ o. is_true s (condition_view c.args.condition.now) (o ∷ env)) next (λ y ys. refl) _ (sym c.if-branch.false ∙ c.in_ok-is_true.ensures) c.loop-object.invariant

pub is_true_of_some-loop-object-smaller : goal.is_true_of_some-loop-object-smaller
is_true_of_some-loop-object-smaller g t c = falls (length c.args.range.now) c.loop-object.object-index c.loop-object-test.true

pub is_true_of_some-returns : goal.is_true_of_some-returns
is_true_of_some-returns g t c =
    let s = g.S.AtomStore.content c.args.store.now c.args.set.now in
    let env = frame_view c.args.frame.now in
    sym (at_drop_all (list_any (λ o. is_true s (condition_view c.args.condition.now) (o ∷ env))) c.args.range.now c.loop-object.object-index c.loop-object-test.false) ∙ c.loop-object.invariant

pub is_true-is_true-requires : goal.is_true-is_true-requires
is_true-is_true-requires g t c κs within = (to_part _ _ t (under_not g.row.A g.A.Allocator g.A.laws c.args.condition.now c.deref-in-Not.result.now c.in-Not.inner c.in-Not.is c.deref-in-Not.ensures) c.decreases, (within.0, (within.1.0, (within.1.1.0, (within.1.1.1, c.requires)))))

pub is_true-is_true-requires-in-Imply : goal.is_true-is_true-requires-in-Imply
is_true-is_true-requires-in-Imply g t c κs within = (to_part _ _ t ((under_imply g.row.A g.A.Allocator g.A.laws c.args.condition.now c.deref-in-Imply.result.now c.in-Imply.right.value c.in-Imply.left c.in-Imply.right c.in-Imply.is c.deref-in-Imply.ensures refl).0) c.decreases, (within.0, (within.1.0, (within.1.1.0, (within.1.1.1, c.requires)))))

pub is_true-is_true-requires-then-branch : goal.is_true-is_true-requires-then-branch
is_true-is_true-requires-then-branch g t c κs within = (to_part _ _ t ((under_imply g.row.A g.A.Allocator g.A.laws c.args.condition.now c.deref-in-Imply.result.now c.deref-then-branch.result.now c.in-Imply.left c.in-Imply.right c.in-Imply.is c.deref-in-Imply.ensures c.deref-then-branch.ensures).1) c.decreases, (within.0, (within.1.0, (within.1.1.0, (within.1.1.1, c.requires)))))

pub is_true-is_true_of_some-requires : goal.is_true-is_true_of_some-requires
is_true-is_true_of_some-requires g t c κs within = (to_parts _ _ t (under_exists g.row.A g.A.Allocator g.A.laws c.args.condition.now c.deref-in-Exists-2.result.now c.in-Exists.range c.in-Exists.inner c.in-Exists.is c.deref-in-Exists-2.ensures) c.decreases, (within.0, (within.1.0, (within.1.1.0, (within.1.1.1, c.requires)))))

pub is_true-is_true_of_all-requires : goal.is_true-is_true_of_all-requires
is_true-is_true_of_all-requires g t c κs within = (to_parts _ _ t (under_forall g.row.A g.A.Allocator g.A.laws c.args.condition.now c.deref-in-Forall-2.result.now c.in-Forall.range c.in-Forall.inner c.in-Forall.is c.deref-in-Forall-2.ensures) c.decreases, (within.0, (within.1.0, (within.1.1.0, (within.1.1.1, c.requires)))))

pub is_true_of_all-is_true-requires : goal.is_true_of_all-is_true-requires
is_true_of_all-is_true-requires g t c κs within = (from_each _ t c.decreases, (within.0, (within.1.0, (within.1.1.0, (within.1.1.1, c.requires)))))

pub is_true_of_some-is_true-requires : goal.is_true_of_some-is_true-requires
is_true_of_some-is_true-requires g t c κs within = (from_each _ t c.decreases, (within.0, (within.1.0, (within.1.1.0, (within.1.1.1, c.requires)))))

pub is_true-returns-in_err-is_true-in-Not : goal.is_true-returns-in_err-is_true-in-Not
is_true-returns-in_err-is_true-in-Not g t c = IfOk-from_err c.from_residual.result _ c.from_residual.ensures.0

pub is_true-returns-in_err-is_true-in-Imply : goal.is_true-returns-in_err-is_true-in-Imply
is_true-returns-in_err-is_true-in-Imply g t c = IfOk-from_err c.from_residual-in_err-is_true-in-Imply.result _ c.from_residual-in_err-is_true-in-Imply.ensures.0

pub is_true-returns-in-Known : goal.is_true-returns-in-Known
is_true-returns-in-Known g t c =
    let s = g.S.AtomStore.content c.args.store.now c.args.set.now in
    let env = frame_view c.args.frame.now in
    ap (λ v. is_true s v env) (sym (view_known c.args.condition.now c.in-Known.answer c.in-Known.is))

pub is_true-returns-in-Atom : goal.is_true-returns-in-Atom
is_true-returns-in-Atom g t c =
    let s = g.S.AtomStore.content c.args.store.now c.args.set.now in
    let env = frame_view c.args.frame.now in
    let seen = view-Atom c.args.condition.now c.in-Atom.predicate c.in-Atom.places c.deref.result.now c.in-Atom.is c.deref.ensures.value in
    subst (λ v. IfOk c.has_filled.result (λ yes. yes ≡ is_true s v env)) (sym seen) c.has_filled.ensures

pub is_true-returns-in-Equal : goal.is_true-returns-in-Equal
is_true-returns-in-Equal g t c =
    let s = g.S.AtomStore.content c.args.store.now c.args.set.now in
    let env = frame_view c.args.frame.now in
    let seen = view-Equal c.args.condition.now c.in-Equal.left c.in-Equal.right c.in-Equal.is in
    ap (λ n. eqb n c.object_in-in-Equal.result) c.object_in.ensures ∙ (ap (λ n. eqb (object_in env (place_view c.in-Equal.left)) n) c.object_in-in-Equal.ensures ∙ ap (λ v. is_true s v env) (sym seen))

pub is_true-returns-in_ok-is_true-in-Not : goal.is_true-returns-in_ok-is_true-in-Not
is_true-returns-in_ok-is_true-in-Not g t c =
    let s = g.S.AtomStore.content c.args.store.now c.args.set.now in
    let env = frame_view c.args.frame.now in
    let seen = view-Not c.args.condition.now c.in-Not.inner c.deref-in-Not.result.now c.in-Not.is c.deref-in-Not.ensures in
    ap not c.in_ok-is_true-in-Not.ensures ∙ ap (λ v. is_true s v env) (sym seen)

pub is_true-returns-then-branch : goal.is_true-returns-then-branch
is_true-returns-then-branch g t c =
    let s = g.S.AtomStore.content c.args.store.now c.args.set.now in
    let env = frame_view c.args.frame.now in
    let seen = view-Imply c.args.condition.now c.in-Imply.left c.in-Imply.right c.deref-in-Imply.result.now c.deref-then-branch.result.now c.in-Imply.is c.deref-in-Imply.ensures c.deref-then-branch.ensures in
    let conclusion = is_true s (condition_view c.deref-then-branch.result.now) env in
    let same = ap (λ v. is_true s v env) seen ∙ ap (λ b. not b || conclusion) (sym c.in_ok-is_true-in-Imply.ensures ∙ c.if-branch.true) in
    subst (λ b. IfOk c.is_true-then-branch.result (λ yes. yes ≡ b)) (sym same) c.is_true-then-branch.ensures

pub is_true-returns-else-branch : goal.is_true-returns-else-branch
is_true-returns-else-branch g t c =
    let s = g.S.AtomStore.content c.args.store.now c.args.set.now in
    let env = frame_view c.args.frame.now in
    let seen = view-Imply c.args.condition.now c.in-Imply.left c.in-Imply.right c.deref-in-Imply.result.now c.in-Imply.right.value c.in-Imply.is c.deref-in-Imply.ensures refl in
    let conclusion = is_true s (condition_view c.in-Imply.right.value) env in
    let same = ap (λ v. is_true s v env) seen ∙ ap (λ b. not b || conclusion) (sym c.in_ok-is_true-in-Imply.ensures ∙ c.if-branch.false) in
    sym same
