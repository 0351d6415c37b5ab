use Rattle.std.proofs.Common.{◌≡◌, ◌||◌, ◌∷◌, length, ap, subst, sym, ◌∙◌, refl}
use Rattle.std.specs.Prelude.{OnOk}
use Rattle.std.specs.List.{list_any}
use Rattle.std.proofs.lemmas.List.{at_drop_all}
use Rattle.std.proofs.lemmas.Result.{IfOk-from_err}
use borrow.Author.Count.{falls}
use Rattle.pddl_state.specs.Atoms.{AtomValue, atom_eq}
use Rattle.pddl_compiled.specs.Views.{condition_view, change_view, changes_view, frame_view}
use Rattle.pddl_compiled.specs.CompiledMeaning.{some_tested}
use Rattle.pddl_compiled.proofs.compiled.Change.TheLaws.{the_size}
use Rattle.pddl_evaluation.specs.Reads.{tested_by, tested_by_all}
use Rattle.pddl_evaluation.proofs.Depths.{from_each, from_parts, to_part, to_parts, under_all, under_each, under_when, among}
use Rattle.pddl_evaluation.proofs.Views.{view-Both, view-Each, view-When, view-Add, view-Del, view-Increase, view-IncreaseBy}
use Rattle.pddl_evaluation.proofs.More.{front, front_number, one_more, both_more, on_ok}
use Rattle.pddl_evaluation.proofs.reads.+change_reads.Goals as goal

pub add_change_reads-returns-in-And : goal.add_change_reads-returns-in-And
add_change_reads-returns-in-And g t c =
    let content = g.S.AtomStore.content in
    let seen = view-Both c.args.change.now c.in-And.parts c.deref.result.now c.in-And.is c.deref.ensures.value in
    record {
      own = c.add_changes_reads.ensures.own;
      others_own = c.add_changes_reads.ensures.others_own;
      others = c.add_changes_reads.ensures.others;
      ok = subst (λ v. OnOk c.add_changes_reads.result ((x : AtomValue) → content c.add_changes_reads.new.store c.add_changes_reads.new.into x ≡ (tested_by v (atom_eq x) (frame_view c.args.frame.now) || content c.args.store.now c.args.into.now x))) (sym seen) c.add_changes_reads.ensures.ok;
    }

pub add_change_reads-returns-in-Forall : goal.add_change_reads-returns-in-Forall
add_change_reads-returns-in-Forall g t c =
    let content = g.S.AtomStore.content in
    let seen = view-Each c.args.change.now c.in-Forall.range c.in-Forall.inner c.deref-in-Forall.result.now c.deref-in-Forall-2.result.now c.in-Forall.is c.deref-in-Forall.ensures.value c.deref-in-Forall-2.ensures in
    record {
      own = c.add_change_reads_of_each.ensures.own;
      others_own = c.add_change_reads_of_each.ensures.others_own;
      others = c.add_change_reads_of_each.ensures.others;
      ok = subst (λ v. OnOk c.add_change_reads_of_each.result ((x : AtomValue) → content c.add_change_reads_of_each.new.store c.add_change_reads_of_each.new.into x ≡ (tested_by v (atom_eq x) (frame_view c.args.frame.now) || content c.args.store.now c.args.into.now x))) (sym seen) c.add_change_reads_of_each.ensures.ok;
    }

pub add_change_reads-returns-in_err-add_reads-in-When : goal.add_change_reads-returns-in_err-add_reads-in-When
add_change_reads-returns-in_err-add_reads-in-When g t c =
    record {
      own = c.add_reads.ensures.own;
      others_own = c.add_reads.ensures.others_own;
      others = c.add_reads.ensures.others;
      ok = IfOk-from_err c.from_residual.result _ c.from_residual.ensures.0;
    }

pub add_change_reads-returns-in_ok-add_reads-in-When : goal.add_change_reads-returns-in_ok-add_reads-in-When
add_change_reads-returns-in_ok-add_reads-in-When g t c =
    let content = g.S.AtomStore.content in
    let env = frame_view c.args.frame.now in
    let first = c.add_reads.new in
    let second = c.add_change_reads.new in
    let put = c.add_change_reads.ensures in
    let seen = view-When c.args.change.now c.in-When.condition c.in-When.inner c.deref-in-When.result.now c.in-When.is c.deref-in-When.ensures in
    record {
      own = put.own;
      others_own = λ u h. put.others_own u (c.add_reads.ensures.others_own u h);
      others = λ u h. put.others u (c.add_reads.ensures.others_own u h) ∙ c.add_reads.ensures.others u h;
      ok = on_ok c.add_change_reads.result put.ok (λ more x. both_more (some_tested (condition_view c.in-When.condition) (atom_eq x) env) (tested_by (change_view c.deref-in-When.result.now) (atom_eq x) env) (content c.args.store.now c.args.into.now x) (content first.store first.into x) (content second.store second.into x) (c.in_ok-add_reads-in-When.ensures.ok x) (more x)
          ∙ ap (λ v. tested_by v (atom_eq x) env || content c.args.store.now c.args.into.now x) (sym seen));
    }

pub add_change_reads-returns-in-Add : goal.add_change_reads-returns-in-Add
add_change_reads-returns-in-Add g t c =
    let content = g.S.AtomStore.content in
    let seen = view-Add c.args.change.now c.in-Add.field-0 c.in-Add.field-1 c.in-Add.field-1.items c.in-Add.is refl in
    record {
      own = c.requires;
      others_own = λ u h. h;
      others = λ u h. refl;
      ok = λ x. ap (λ v. tested_by v (atom_eq x) (frame_view c.args.frame.now) || content c.args.store.now c.args.into.now x) (sym seen);
    }

pub add_change_reads-returns-in-Del : goal.add_change_reads-returns-in-Del
add_change_reads-returns-in-Del g t c =
    let content = g.S.AtomStore.content in
    let seen = view-Del c.args.change.now c.in-Del.field-0 c.in-Del.field-1 c.in-Del.field-1.items c.in-Del.is refl in
    record {
      own = c.requires;
      others_own = λ u h. h;
      others = λ u h. refl;
      ok = λ x. ap (λ v. tested_by v (atom_eq x) (frame_view c.args.frame.now) || content c.args.store.now c.args.into.now x) (sym seen);
    }

pub add_change_reads-returns-in-Increase : goal.add_change_reads-returns-in-Increase
add_change_reads-returns-in-Increase g t c =
    let content = g.S.AtomStore.content in
    let seen = view-Increase c.args.change.now c.in-Increase.field-0 c.in-Increase.field-1 c.in-Increase.field-1.items c.in-Increase.is refl in
    record {
      own = c.requires;
      others_own = λ u h. h;
      others = λ u h. refl;
      ok = λ x. ap (λ v. tested_by v (atom_eq x) (frame_view c.args.frame.now) || content c.args.store.now c.args.into.now x) (sym seen);
    }

pub add_change_reads-returns-in-IncreaseBy : goal.add_change_reads-returns-in-IncreaseBy
add_change_reads-returns-in-IncreaseBy g t c =
    let content = g.S.AtomStore.content in
    let seen = view-IncreaseBy c.args.change.now c.in-IncreaseBy.field-0 c.in-IncreaseBy.is in
    record {
      own = c.requires;
      others_own = λ u h. h;
      others = λ u h. refl;
      ok = λ x. ap (λ v. tested_by v (atom_eq x) (frame_view c.args.frame.now) || content c.args.store.now c.args.into.now x) (sym seen);
    }

pub add_change_reads-add_changes_reads-requires : goal.add_change_reads-add_changes_reads-requires
add_change_reads-add_changes_reads-requires g t c κs within = (to_parts _ _ t (under_all g.row.A g.A.Allocator g.A.laws c.args.change.now c.deref.result.now c.in-And.parts c.in-And.is c.deref.ensures.value) c.decreases, (within.0, (within.1.0, (within.1.1.0, (within.1.1.1, c.requires)))))

pub add_change_reads-add_change_reads_of_each-requires : goal.add_change_reads-add_change_reads_of_each-requires
add_change_reads-add_change_reads_of_each-requires g t c κs within = (to_parts _ _ t (under_each g.row.A g.A.Allocator g.A.laws c.args.change.now c.deref-in-Forall-2.result.now c.in-Forall.range c.in-Forall.inner c.in-Forall.is c.deref-in-Forall-2.ensures) c.decreases, (within.0, (within.1.0, (within.1.1.0, (within.1.1.1, c.requires)))))

pub add_change_reads-add_change_reads-requires : goal.add_change_reads-add_change_reads-requires
add_change_reads-add_change_reads-requires g t c κs within = (to_part _ _ t (under_when g.row.A g.A.Allocator g.A.laws c.args.change.now c.deref-in-When.result.now c.in-When.condition c.in-When.inner c.in-When.is c.deref-in-When.ensures) c.decreases, (within.0, (within.1.0, (within.1.1.0, (within.1.1.1, c.add_reads.ensures.own)))))

pub add_changes_reads-add_change_reads-requires : goal.add_changes_reads-add_change_reads-requires
add_changes_reads-add_change_reads-requires g t c κs within = (from_parts _ _ t (among (λ f. the_size g.row.A g.A.Allocator g.A.laws f) c.args.changes.now c.loop-change.change-index c.change-item.result c.loop-change-test.true c.change-item.is) c.decreases, (within.0, (within.1.0, (within.1.1.0, (within.1.1.1, c.loop-change.invariant.own)))))

pub add_changes_reads-returns-in_err-add_change_reads : goal.add_changes_reads-returns-in_err-add_change_reads
add_changes_reads-returns-in_err-add_change_reads g t c =
    let old = c.loop-change.invariant in
    let put = c.add_change_reads.ensures in
    record {
      own = put.own;
      others_own = λ u h. put.others_own u (old.others_own u h);
      others = λ u h. put.others u (old.others_own u h) ∙ old.others u h;
      ok = IfOk-from_err c.from_residual.result _ c.from_residual.ensures.0;
    }

pub add_changes_reads-loop-change-smaller : goal.add_changes_reads-loop-change-smaller
add_changes_reads-loop-change-smaller g t c = falls (length c.args.changes.now) c.loop-change.change-index c.loop-change-test.true

pub add_changes_reads-loop-change-preserved : goal.add_changes_reads-loop-change-preserved
add_changes_reads-loop-change-preserved g t c =
    let content = g.S.AtomStore.content in
    let old = c.loop-change.invariant in
    let put = c.in_ok-add_change_reads.ensures in
    let next = front c.args.changes.now c.loop-change.change-index c.change-item.result c.loop-change-test.true c.change-item.is in
    record {
      own = put.own;
      others_own = λ u h. put.others_own u (old.others_own u h);
      others = λ u h. put.others u (old.others_own u h) ∙ old.others u h;
      rest = λ x. old.rest x ∙ one_more (λ cs. tested_by_all (changes_view cs) (atom_eq x) (frame_view c.args.frame.now)) (λ k. tested_by (change_view k) (atom_eq x) (frame_view c.args.frame.now)) next (λ y ys. refl) _ _ (put.ok x);
    }

pub add_changes_reads-returns : goal.add_changes_reads-returns
add_changes_reads-returns g t c =
    let content = g.S.AtomStore.content in
    let old = c.loop-change.invariant in
    record {
      own = old.own;
      others_own = old.others_own;
      others = old.others;
      ok = λ x. sym (old.rest x ∙ ap (λ b. b || content c.loop-change.store c.loop-change.into x) (at_drop_all (λ cs. tested_by_all (changes_view cs) (atom_eq x) (frame_view c.args.frame.now)) c.args.changes.now c.loop-change.change-index c.loop-change-test.false));
    }

pub add_change_reads_of_each-add_change_reads-requires : goal.add_change_reads_of_each-add_change_reads-requires
add_change_reads_of_each-add_change_reads-requires g t c κs within = (from_each _ t c.decreases, (within.0, (within.1.0, (within.1.1.0, (within.1.1.1, c.loop-object.invariant.own)))))

pub add_change_reads_of_each-returns-in_err-add_change_reads : goal.add_change_reads_of_each-returns-in_err-add_change_reads
add_change_reads_of_each-returns-in_err-add_change_reads g t c =
    let old = c.loop-object.invariant in
    let put = c.add_change_reads.ensures in
    record {
      own = put.own;
      others_own = λ u h. put.others_own u (old.others_own u h);
      others = λ u h. put.others u (old.others_own u h) ∙ old.others u h;
      ok = IfOk-from_err c.from_residual.result _ c.from_residual.ensures.0;
    }

pub add_change_reads_of_each-loop-object-smaller : goal.add_change_reads_of_each-loop-object-smaller
add_change_reads_of_each-loop-object-smaller g t c = falls (length c.args.range.now) c.loop-object.object-index c.loop-object-test.true

pub add_change_reads_of_each-loop-object-preserved : goal.add_change_reads_of_each-loop-object-preserved
add_change_reads_of_each-loop-object-preserved g t c =
    let content = g.S.AtomStore.content in
    let old = c.loop-object.invariant in
    let put = c.in_ok-add_change_reads.ensures in
    let next = front_number c.args.range.now c.loop-object.object-index c.loop-object-test.true in
    record {
      own = put.own;
      others_own = λ u h. put.others_own u (old.others_own u h);
      others = λ u h. put.others u (old.others_own u h) ∙ old.others u h;
      rest = λ x. old.rest x ∙ one_more (list_any (λ o. tested_by (change_view c.args.change.now) (atom_eq x) (o ∷ frame_view c.args.frame.now))) (λ o. tested_by (change_view c.args.change.now) (atom_eq x) (o ∷ frame_view c.args.frame.now)) next (λ y ys. refl) _ _ (put.ok x);
    }

pub add_change_reads_of_each-returns : goal.add_change_reads_of_each-returns
add_change_reads_of_each-returns g t c =
    let content = g.S.AtomStore.content in
    let old = c.loop-object.invariant in
    record {
      own = old.own;
      others_own = old.others_own;
      others = old.others;
      ok = λ x. sym (old.rest x ∙ ap (λ b. b || content c.loop-object.store c.loop-object.into x) (at_drop_all (list_any (λ o. tested_by (change_view c.args.change.now) (atom_eq x) (o ∷ frame_view c.args.frame.now))) c.args.range.now c.loop-object.object-index c.loop-object-test.false));
    }
