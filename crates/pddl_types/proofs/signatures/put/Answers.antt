use Rattle.std.proofs.Common.{◌≤◌, refl, arith, length, [], map, take, sym, ap, ◌∙◌}
use Rattle.std.proofs.lemmas.List.{drop_all, take_all, map-append}
use Rattle.std.proofs.lemmas.Result.{err_from_is_err_and}
use Rattle.pddl_task.specs.Names.{repeated}
use Rattle.pddl_formula.specs.TypedLists.{typed_view}
use Rattle.pddl_task.specs.Settings.{symbol_of, parameters_of}
use Rattle.pddl_faults.proofs.ListTurns.{views_drop, seen_more}
use Rattle.pddl_faults.proofs.PassedParts.{pass_front}
use Rattle.pddl_types.proofs.FirstFaults.{first_more, first_all}
use Rattle.pddl_types.proofs.ToldTypes.{kept_self, kept_then}
use Rattle.pddl_types.proofs.SignatureTables.{put_where_new}
use Rattle.pddl_types.proofs.UnknownTypes.{declared_left}
use Rattle.pddl_types.proofs.signatures.put.Goals as goal

pub loop-each-init : goal.loop-each-init
loop-each-init g c = record {
  types = c.requires.told;
  kept = kept_self c.args.told.now;
  held = rw c.requires.empty (record { first = record { first = λ n. refl; all = λ none. refl }; slots = λ k e low. absurd (omega arith) });
  found = record { so_far = refl };
  left = refl;
}

pub returns-in_err-numbers-clause-kept : goal.returns-in_err-numbers-clause-kept
returns-in_err-numbers-clause-kept g c = kept_then _ _ _ c.loop-each.invariant.kept c.tell_all.ensures.kept

pub returns-in_err-numbers-clause-passes : goal.returns-in_err-numbers-clause-passes
returns-in_err-numbers-clause-passes g c =
    let low = rw c.deref-each-items.ensures.value at c.loop-each-test.true in
    let at = rw c.deref-each-items.ensures.value at c.each-item.is in
    let left = declared_left c.args.types.now.declared parameters_of g.D.Declares.signature c.args.declared.now.items c.loop-each.each-index c.each-item.result _ low at c.parameters-list.ensures in
    let p = err_from_is_err_and c.from_residual.result c.from_residual.ensures.1 in
    rw (p.1, p.2) (pass_front 23 _ _ _ c.in_err-numbers.field-0.0 (sym c.loop-each.invariant.left ∙ left) c.in_err-numbers.ensures.passes)

pub returns-in_err-place-clause-kept : goal.returns-in_err-place-clause-kept
returns-in_err-place-clause-kept g c = kept_then _ _ _ c.loop-each.invariant.kept c.tell_all.ensures.kept

pub loop-each-preserved : goal.loop-each-preserved
loop-each-preserved g c =
    let signature = g.D.Declares.signature in
    let all = c.args.declared.now.items in
    let i = c.loop-each.each-index in
    let x = c.each-item.result in
    let before = c.loop-each.invariant in
    let low = rw c.deref-each-items.ensures.value at c.loop-each-test.true in
    let at = rw c.deref-each-items.ensures.value at c.each-item.is in
    let more = seen_more signature [] all i x low at in
    let left = declared_left c.args.types.now.declared parameters_of signature all i x _ low at c.parameters-list.ensures in
    let rest = views_drop signature all i x low at in
    let (twice, held) = put_where_new c.loop-each.table c.tell_all.ensures.kept (map signature (take i all)) before.held (signature x) c.name-name.result c.name-name.ensures (record { parameters = c.as_slice-parameters.result; numbers = c.in_ok-numbers.numbers }) c.put_new.new.table.entries c.in_ok-place.place _ refl
    c.in_ok-place.ensures.place.0 c.in_ok-place.ensures.entries (ap (map typed_view) c.as_slice-parameters.ensures.value ∙ c.parameters-list.ensures, rw c.parameters-list.ensures at c.in_ok-numbers.ensures.numbers)
    in
    record {
      types = c.tell_all.ensures.told;
      kept = kept_then _ _ _ before.kept c.tell_all.ensures.kept;
      held = rw more held;
      found = first_more _ c.once.result c.and-found.ensures (simp (more, rest, map-append)) (rw (c.len-count.ensures.len, ← twice, c.name-name.ensures) at c.once.ensures) before.found;
      left = rw (left, c.in_ok-numbers.ensures.passes) at before.left;
    }

pub returns : goal.returns
returns g c =
    let all = c.args.declared.now.items in
    let i = c.loop-each.each-index in
    let done = c.loop-each.invariant in
    let past : length all ≤ i = omega (arith, c.loop-each-test.false, ap length c.deref-each-items.ensures.value) in
    let none = drop_all i all past in
    record {
      told = done.types;
      kept = done.kept;
      passes = sym (rw none at done.left);
      found = first_all (ap (λ xs. repeated (map symbol_of (map g.D.Declares.signature (take i all))) (map symbol_of (map g.D.Declares.signature xs))) none) done.found;
      held = rw (take_all i all past) at done.held;
    }
