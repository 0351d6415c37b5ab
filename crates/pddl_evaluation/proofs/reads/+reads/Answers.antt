use Rattle.std.proofs.Common.{◌≡◌, ◌||◌, ◌∷◌, length, ap, subst, sym, ◌∙◌, refl}
use Rattle.std.specs.Prelude.{OnOk}
use Rattle.std.specs.List.{list_any}
use Rattle.std.proofs.lemmas.List.{at_drop_all}
use Rattle.std.proofs.lemmas.Result.{IfOk-from_err}
use borrow.Author.Count.{falls}
use Rattle.pddl_state.specs.Atoms.{AtomValue, atom_eq}
use Rattle.pddl_compiled.specs.Views.{condition_view, conditions_view, frame_view}
use Rattle.pddl_compiled.specs.CompiledMeaning.{some_tested, some_tested_in}
use Rattle.pddl_compiled.proofs.compiled.Condition.TheLaws.{the_size}
use Rattle.pddl_compiled.proofs.Rows.{view_known}
use Rattle.pddl_evaluation.proofs.Depths.{from_each, from_parts, to_part, to_parts, under_not, under_imply, under_and, under_or, under_exists, under_forall, among}
use Rattle.pddl_evaluation.proofs.Views.{view-Atom, view-Equal, view-Not, view-And, view-Or, view-Imply, view-Exists, view-Forall}
use Rattle.pddl_evaluation.proofs.More.{front, front_number, one_more, both_more, on_ok}
use Rattle.pddl_evaluation.proofs.reads.+reads.Goals as goal

pub add_reads-returns-in-Known : goal.add_reads-returns-in-Known
add_reads-returns-in-Known g t c =
    let content = g.S.AtomStore.content in
    let seen = view_known c.args.condition.now c.in-Known.field-0 c.in-Known.is in
    record {
      own = c.requires;
      others_own = λ u h. h;
      others = λ u h. refl;
      ok = λ x. ap (λ v. some_tested v (atom_eq x) (frame_view c.args.frame.now) || content c.args.store.now c.args.into.now x) (sym seen);
    }

pub add_reads-returns-in-Equal : goal.add_reads-returns-in-Equal
add_reads-returns-in-Equal g t c =
    let content = g.S.AtomStore.content in
    let seen = view-Equal c.args.condition.now c.in-Equal.field-0 c.in-Equal.field-1 c.in-Equal.is in
    record {
      own = c.requires;
      others_own = λ u h. h;
      others = λ u h. refl;
      ok = λ x. ap (λ v. some_tested v (atom_eq x) (frame_view c.args.frame.now) || content c.args.store.now c.args.into.now x) (sym seen);
    }

pub add_reads-returns-in-Atom : goal.add_reads-returns-in-Atom
add_reads-returns-in-Atom g t c =
    let content = g.S.AtomStore.content in
    let seen = view-Atom c.args.condition.now c.in-Atom.predicate c.in-Atom.places c.deref.result.now c.in-Atom.is c.deref.ensures.value in
    record {
      own = c.insert_filled.ensures.own;
      others_own = c.insert_filled.ensures.others_own;
      others = c.insert_filled.ensures.others;
      ok = on_ok c.insert_filled.result c.insert_filled.ensures.ok (λ put x. ap (λ s. s x) put ∙ ap (λ v. some_tested v (atom_eq x) (frame_view c.args.frame.now) || content c.args.store.now c.args.into.now x) (sym seen));
    }

pub add_reads-returns-in-Not : goal.add_reads-returns-in-Not
add_reads-returns-in-Not g t c =
    let content = g.S.AtomStore.content in
    let seen = view-Not c.args.condition.now c.in-Not.inner c.deref-in-Not.result.now c.in-Not.is c.deref-in-Not.ensures in
    record {
      own = c.add_reads.ensures.own;
      others_own = c.add_reads.ensures.others_own;
      others = c.add_reads.ensures.others;
      ok = subst (λ v. OnOk c.add_reads.result ((x : AtomValue) → content c.add_reads.new.store c.add_reads.new.into x ≡ (some_tested v (atom_eq x) (frame_view c.args.frame.now) || content c.args.store.now c.args.into.now x))) (sym seen) c.add_reads.ensures.ok;
    }

pub add_reads-returns-in-And : goal.add_reads-returns-in-And
add_reads-returns-in-And g t c =
    let content = g.S.AtomStore.content in
    let seen = view-And c.args.condition.now c.in-And.parts c.deref-in-And.result.now c.in-And.is c.deref-in-And.ensures.value in
    record {
      own = c.add_all_reads.ensures.own;
      others_own = c.add_all_reads.ensures.others_own;
      others = c.add_all_reads.ensures.others;
      ok = subst (λ v. OnOk c.add_all_reads.result ((x : AtomValue) → content c.add_all_reads.new.store c.add_all_reads.new.into x ≡ (some_tested v (atom_eq x) (frame_view c.args.frame.now) || content c.args.store.now c.args.into.now x))) (sym seen) c.add_all_reads.ensures.ok;
    }

pub add_reads-returns-in-Or : goal.add_reads-returns-in-Or
add_reads-returns-in-Or g t c =
    let content = g.S.AtomStore.content in
    let seen = view-Or c.args.condition.now c.in-Or.parts c.deref-in-Or.result.now c.in-Or.is c.deref-in-Or.ensures.value in
    record {
      own = c.add_all_reads-in-Or.ensures.own;
      others_own = c.add_all_reads-in-Or.ensures.others_own;
      others = c.add_all_reads-in-Or.ensures.others;
      ok = subst (λ v. OnOk c.add_all_reads-in-Or.result ((x : AtomValue) → content c.add_all_reads-in-Or.new.store c.add_all_reads-in-Or.new.into x ≡ (some_tested v (atom_eq x) (frame_view c.args.frame.now) || content c.args.store.now c.args.into.now x))) (sym seen) c.add_all_reads-in-Or.ensures.ok;
    }

pub add_reads-returns-in-Exists : goal.add_reads-returns-in-Exists
add_reads-returns-in-Exists g t c =
    let content = g.S.AtomStore.content in
    let seen = view-Exists c.args.condition.now c.in-Exists.range c.in-Exists.inner c.deref-in-Exists.result.now c.deref-in-Exists-2.result.now c.in-Exists.is c.deref-in-Exists.ensures.value c.deref-in-Exists-2.ensures in
    record {
      own = c.add_reads_of_each.ensures.own;
      others_own = c.add_reads_of_each.ensures.others_own;
      others = c.add_reads_of_each.ensures.others;
      ok = subst (λ v. OnOk c.add_reads_of_each.result ((x : AtomValue) → content c.add_reads_of_each.new.store c.add_reads_of_each.new.into x ≡ (some_tested v (atom_eq x) (frame_view c.args.frame.now) || content c.args.store.now c.args.into.now x))) (sym seen) c.add_reads_of_each.ensures.ok;
    }

pub add_reads-returns-in-Forall : goal.add_reads-returns-in-Forall
add_reads-returns-in-Forall g t c =
    let content = g.S.AtomStore.content in
    let seen = view-Forall c.args.condition.now c.in-Forall.range c.in-Forall.inner c.deref-in-Forall.result.now c.deref-in-Forall-2.result.now c.in-Forall.is c.deref-in-Forall.ensures.value c.deref-in-Forall-2.ensures in
    record {
      own = c.add_reads_of_each-in-Forall.ensures.own;
      others_own = c.add_reads_of_each-in-Forall.ensures.others_own;
      others = c.add_reads_of_each-in-Forall.ensures.others;
      ok = subst (λ v. OnOk c.add_reads_of_each-in-Forall.result ((x : AtomValue) → content c.add_reads_of_each-in-Forall.new.store c.add_reads_of_each-in-Forall.new.into x ≡ (some_tested v (atom_eq x) (frame_view c.args.frame.now) || content c.args.store.now c.args.into.now x))) (sym seen) c.add_reads_of_each-in-Forall.ensures.ok;
    }

pub add_reads-returns-in_err-add_reads-in-Imply : goal.add_reads-returns-in_err-add_reads-in-Imply
add_reads-returns-in_err-add_reads-in-Imply g t c =
    record {
      own = c.add_reads-in-Imply.ensures.own;
      others_own = c.add_reads-in-Imply.ensures.others_own;
      others = c.add_reads-in-Imply.ensures.others;
      ok = IfOk-from_err c.from_residual.result _ c.from_residual.ensures.0;
    }

pub add_reads-returns-in_ok-add_reads-in-Imply : goal.add_reads-returns-in_ok-add_reads-in-Imply
add_reads-returns-in_ok-add_reads-in-Imply g t c =
    let content = g.S.AtomStore.content in
    let env = frame_view c.args.frame.now in
    let first = c.add_reads-in-Imply.new in
    let second = c.add_reads-in-Imply-2.new in
    let put = c.add_reads-in-Imply-2.ensures in
    let seen = view-Imply c.args.condition.now c.in-Imply.left c.in-Imply.right c.deref-in-Imply.result.now c.deref-in-Imply-2.result.now c.in-Imply.is c.deref-in-Imply.ensures c.deref-in-Imply-2.ensures in
    record {
      own = put.own;
      others_own = λ u h. put.others_own u (c.add_reads-in-Imply.ensures.others_own u h);
      others = λ u h. put.others u (c.add_reads-in-Imply.ensures.others_own u h) ∙ c.add_reads-in-Imply.ensures.others u h;
      ok = on_ok c.add_reads-in-Imply-2.result put.ok (λ more x. both_more (some_tested (condition_view c.deref-in-Imply.result.now) (atom_eq x) env) (some_tested (condition_view c.deref-in-Imply-2.result.now) (atom_eq x) env) (content c.args.store.now c.args.into.now x) (content first.store first.into x) (content second.store second.into x) (c.in_ok-add_reads-in-Imply.ensures.ok x) (more x)
          ∙ ap (λ v. some_tested v (atom_eq x) env || content c.args.store.now c.args.into.now x) (sym seen));
    }

pub add_reads-add_reads-requires : goal.add_reads-add_reads-requires
add_reads-add_reads-requires g t c κs within = (to_part _ _ t (under_not g.row.A g.A.Allocator g.A.laws c.args.condition.now c.deref-in-Not.result.now c.in-Not.inner c.in-Not.is c.deref-in-Not.ensures) c.decreases, (within.0, (within.1.0, (within.1.1.0, (within.1.1.1, c.requires)))))

pub add_reads-add_reads-requires-in-Imply : goal.add_reads-add_reads-requires-in-Imply
add_reads-add_reads-requires-in-Imply g t c κs within = (to_part _ _ t ((under_imply g.row.A g.A.Allocator g.A.laws c.args.condition.now c.deref-in-Imply.result.now c.in-Imply.right.value c.in-Imply.left c.in-Imply.right c.in-Imply.is c.deref-in-Imply.ensures refl).0) c.decreases, (within.0, (within.1.0, (within.1.1.0, (within.1.1.1, c.requires)))))

pub add_reads-add_reads-requires-in-Imply-2 : goal.add_reads-add_reads-requires-in-Imply-2
add_reads-add_reads-requires-in-Imply-2 g t c κs within = (to_part _ _ t ((under_imply g.row.A g.A.Allocator g.A.laws c.args.condition.now c.deref-in-Imply.result.now c.deref-in-Imply-2.result.now c.in-Imply.left c.in-Imply.right c.in-Imply.is c.deref-in-Imply.ensures c.deref-in-Imply-2.ensures).1) c.decreases, (within.0, (within.1.0, (within.1.1.0, (within.1.1.1, c.add_reads-in-Imply.ensures.own)))))

pub add_reads-add_all_reads-requires : goal.add_reads-add_all_reads-requires
add_reads-add_all_reads-requires g t c κs within = (to_parts _ _ t (under_and g.row.A g.A.Allocator g.A.laws c.args.condition.now c.deref-in-And.result.now c.in-And.parts c.in-And.is c.deref-in-And.ensures.value) c.decreases, (within.0, (within.1.0, (within.1.1.0, (within.1.1.1, c.requires)))))

pub add_reads-add_all_reads-requires-in-Or : goal.add_reads-add_all_reads-requires-in-Or
add_reads-add_all_reads-requires-in-Or g t c κs within = (to_parts _ _ t (under_or g.row.A g.A.Allocator g.A.laws c.args.condition.now c.deref-in-Or.result.now c.in-Or.parts c.in-Or.is c.deref-in-Or.ensures.value) c.decreases, (within.0, (within.1.0, (within.1.1.0, (within.1.1.1, c.requires)))))

pub add_reads-add_reads_of_each-requires : goal.add_reads-add_reads_of_each-requires
add_reads-add_reads_of_each-requires g t c κs within = (to_parts _ _ t (under_exists g.row.A g.A.Allocator g.A.laws c.args.condition.now c.deref-in-Exists-2.result.now c.in-Exists.range c.in-Exists.inner c.in-Exists.is c.deref-in-Exists-2.ensures) c.decreases, (within.0, (within.1.0, (within.1.1.0, (within.1.1.1, c.requires)))))

pub add_reads-add_reads_of_each-requires-in-Forall : goal.add_reads-add_reads_of_each-requires-in-Forall
add_reads-add_reads_of_each-requires-in-Forall g t c κs within = (to_parts _ _ t (under_forall g.row.A g.A.Allocator g.A.laws c.args.condition.now c.deref-in-Forall-2.result.now c.in-Forall.range c.in-Forall.inner c.in-Forall.is c.deref-in-Forall-2.ensures) c.decreases, (within.0, (within.1.0, (within.1.1.0, (within.1.1.1, c.requires)))))

pub add_all_reads-add_reads-requires : goal.add_all_reads-add_reads-requires
add_all_reads-add_reads-requires g t c κs within = (from_parts _ _ t (among (λ f. the_size g.row.A g.A.Allocator g.A.laws f) c.args.conditions.now c.loop-condition.condition-index c.condition-item.result c.loop-condition-test.true c.condition-item.is) c.decreases, (within.0, (within.1.0, (within.1.1.0, (within.1.1.1, c.loop-condition.invariant.own)))))

pub add_all_reads-returns-in_err-add_reads : goal.add_all_reads-returns-in_err-add_reads
add_all_reads-returns-in_err-add_reads g t c =
    let old = c.loop-condition.invariant in
    let put = c.add_reads.ensures in
    record {
      own = put.own;
      others_own = λ u h. put.others_own u (old.others_own u h);
      others = λ u h. put.others u (old.others_own u h) ∙ old.others u h;
      ok = IfOk-from_err c.from_residual.result _ c.from_residual.ensures.0;
    }

pub add_all_reads-loop-condition-smaller : goal.add_all_reads-loop-condition-smaller
add_all_reads-loop-condition-smaller g t c = falls (length c.args.conditions.now) c.loop-condition.condition-index c.loop-condition-test.true

pub add_all_reads-loop-condition-preserved : goal.add_all_reads-loop-condition-preserved
add_all_reads-loop-condition-preserved g t c =
    let content = g.S.AtomStore.content in
    let old = c.loop-condition.invariant in
    let put = c.in_ok-add_reads.ensures in
    let next = front c.args.conditions.now c.loop-condition.condition-index c.condition-item.result c.loop-condition-test.true c.condition-item.is in
    record {
      own = put.own;
      others_own = λ u h. put.others_own u (old.others_own u h);
      others = λ u h. put.others u (old.others_own u h) ∙ old.others u h;
      rest = λ x. old.rest x ∙ one_more (λ cs. some_tested_in (conditions_view cs) (atom_eq x) (frame_view c.args.frame.now)) (λ k. some_tested (condition_view k) (atom_eq x) (frame_view c.args.frame.now)) next (λ y ys. refl) _ _ (put.ok x);
    }

pub add_all_reads-returns : goal.add_all_reads-returns
add_all_reads-returns g t c =
    let content = g.S.AtomStore.content in
    let old = c.loop-condition.invariant in
    record {
      own = old.own;
      others_own = old.others_own;
      others = old.others;
      ok = λ x. sym (old.rest x ∙ ap (λ b. b || content c.loop-condition.store c.loop-condition.into x) (at_drop_all (λ cs. some_tested_in (conditions_view cs) (atom_eq x) (frame_view c.args.frame.now)) c.args.conditions.now c.loop-condition.condition-index c.loop-condition-test.false));
    }

pub add_reads_of_each-add_reads-requires : goal.add_reads_of_each-add_reads-requires
add_reads_of_each-add_reads-requires g t c κs within = (from_each _ t c.decreases, (within.0, (within.1.0, (within.1.1.0, (within.1.1.1, c.loop-object.invariant.own)))))

pub add_reads_of_each-returns-in_err-add_reads : goal.add_reads_of_each-returns-in_err-add_reads
add_reads_of_each-returns-in_err-add_reads g t c =
    let old = c.loop-object.invariant in
    let put = c.add_reads.ensures in
    record {
      own = put.own;
      others_own = λ u h. put.others_own u (old.others_own u h);
      others = λ u h. put.others u (old.others_own u h) ∙ old.others u h;
      ok = IfOk-from_err c.from_residual.result _ c.from_residual.ensures.0;
    }

pub add_reads_of_each-loop-object-smaller : goal.add_reads_of_each-loop-object-smaller
add_reads_of_each-loop-object-smaller g t c = falls (length c.args.range.now) c.loop-object.object-index c.loop-object-test.true

pub add_reads_of_each-loop-object-preserved : goal.add_reads_of_each-loop-object-preserved
add_reads_of_each-loop-object-preserved g t c =
    let content = g.S.AtomStore.content in
    let old = c.loop-object.invariant in
    let put = c.in_ok-add_reads.ensures in
    let next = front_number c.args.range.now c.loop-object.object-index c.loop-object-test.true in
    record {
      own = put.own;
      others_own = λ u h. put.others_own u (old.others_own u h);
      others = λ u h. put.others u (old.others_own u h) ∙ old.others u h;
      rest = λ x. old.rest x ∙ one_more (list_any (λ o. some_tested (condition_view c.args.condition.now) (atom_eq x) (o ∷ frame_view c.args.frame.now))) (λ o. some_tested (condition_view c.args.condition.now) (atom_eq x) (o ∷ frame_view c.args.frame.now)) next (λ y ys. refl) _ _ (put.ok x);
    }

pub add_reads_of_each-returns : goal.add_reads_of_each-returns
add_reads_of_each-returns g t c =
    let content = g.S.AtomStore.content in
    let old = c.loop-object.invariant in
    record {
      own = old.own;
      others_own = old.others_own;
      others = old.others;
      ok = λ x. sym (old.rest x ∙ ap (λ b. b || content c.loop-object.store c.loop-object.into x) (at_drop_all (list_any (λ o. some_tested (condition_view c.args.condition.now) (atom_eq x) (o ∷ frame_view c.args.frame.now))) c.args.range.now c.loop-object.object-index c.loop-object-test.false));
    }
