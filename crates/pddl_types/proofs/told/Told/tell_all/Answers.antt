use Rattle.std.proofs.Common.{◌-◌, ◌<◌, ◌≤◌, map, length, refl, sym, ap, ◌∙◌, subst, arith, slice_get}
use Rattle.std.proofs.lemmas.List.{length-map, drop_all, take_all}
use Rattle.std.proofs.lemmas.Option.{same_Some}
use Rattle.std.proofs.lemmas.Slice.Zip.{AllZip-long}
use Rattle.std.proofs.lemmas.Result.{err_from_is_err_and}
use Rattle.pddl_formula.specs.TypedLists.{typed_view}
use Rattle.pddl_task.proofs.Lists.{some_at}
use Rattle.pddl_faults.proofs.PassedParts.{pass_front}
use Rattle.pddl_types.proofs.SharedTypes.{type_at, of_next}
use Rattle.pddl_types.specs.Told.{AreTold, AreKept, IsAt}
use Rattle.pddl_types.proofs.ToldTypes.{kept_self, kept_then, none_unknown, told_next}
use Rattle.pddl_types.proofs.UnknownTypes.{typed_left}
use Rattle.pddl_types.proofs.told.Told.tell_all.Goals as goal
use Rattle.pddl_types.proofs.told.Told.tell_all.Goals.{then-not-shares+in_ok-number, else-not-shares}

pub loop-place-init : goal.loop-place-init
loop-place-init g c = record { types = c.requires.told; kept = kept_self c.args.self.now; numbers = rw c.in_ok-numbers.ensures.items tt; last = λ j x none at. cc; left = refl }

pub returns-in_err-number-clause-kept : goal.returns-in_err-number-clause-kept
returns-in_err-number-clause-kept g c = kept_then _ _ _ c.loop-place.invariant.kept c.tell.ensures.kept

pub returns-in_err-number-clause-passes : goal.returns-in_err-number-clause-passes
returns-in_err-number-clause-passes g c =
    let items = c.args.list.now.items in
    let place = c.loop-place.place in
    let low : place < length items = omega (arith, c.loop-place-test.true, c.len-place-end.ensures) in
    let (x, at) = some_at (map typed_view items) place (omega (arith, low, length-map items typed_view)) in
    let own = type_at items c.deref.result.now place c.index-deref-place.result x c.deref.ensures.value low c.index-deref-place.is at in
    let left = typed_left c.args.types.now.declared (map typed_view items) place x at in
    let p = err_from_is_err_and c.from_residual-in_err-number.result c.from_residual-in_err-number.ensures.1 in
    rw (p.1, p.2) (pass_front 23 _ _ _ c.in_err-number.field-0.0 (sym c.loop-place.invariant.left ∙ left) (rw own at c.in_err-number.ensures.passes))

pub returns-in_err-push-clause-told : goal.returns-in_err-push-clause-told
returns-in_err-push-clause-told g c = elim c.if-not-shares.branch [
  | then-not-shares+in_ok-number w ↦ rw w.self-is w.tell.ensures.told
  | else-not-shares w ↦ rw w.self-is c.loop-place.invariant.types
]

pub returns-in_err-push-clause-kept : goal.returns-in_err-push-clause-kept
returns-in_err-push-clause-kept g c = elim c.if-not-shares.branch [
  | then-not-shares+in_ok-number w ↦ rw w.self-is (kept_then _ _ _ c.loop-place.invariant.kept w.tell.ensures.kept)
  | else-not-shares w ↦ rw w.self-is c.loop-place.invariant.kept
]

pub loop-place-preserved : goal.loop-place-preserved
loop-place-preserved g c =
    let items = c.args.list.now.items in
    let list = map typed_view items in
    let place = c.loop-place.place in
    let held = c.loop-place.self in
    let new = c.if-not-shares.self in
    let number = c.if-not-shares.number in
    let before = c.loop-place.invariant in
    let low : place < length items = omega (arith, c.loop-place-test.true, c.len-place-end.ensures) in
    let (x, at) = some_at list place (omega (arith, low, length-map items typed_view)) in
    let (types, kept, is) : AreTold c.args.types.now new × AreKept held new × IsAt new x.of number =
    elim c.if-not-shares.branch [
      | then-not-shares+in_ok-number w ↦
          rw (w.self-is, w.number-is) (w.tell.ensures.told, w.tell.ensures.kept, subst (λ names. IsAt w.tell.new.self names w.in_ok-number.number) (type_at items w.deref.result.now place w.index-deref-place.result x w.deref.ensures.value low w.index-deref-place.is at) w.in_ok-number.ensures.number)
      | else-not-shares w ↦
          let there = of_next (λ names. IsAt held names c.loop-place.number) list (place - 1) place (c.shares.ensures.same w.if-not-shares.false)
          (λ y found. before.last (place - 1) y (omega (arith, c.shares.ensures.later w.if-not-shares.false)) found) x at in
          rw (w.self-is, w.number-is) (before.types, kept_self held, there)
    ] in
    record {
      types = types;
      kept = kept_then _ _ _ before.kept kept;
      numbers = rw c.in_ok-push.ensures.items (told_next held new list place number c.loop-place.numbers.items x before.numbers kept at is);
      last = λ j y next found. subst (λ z. IsAt new z.of number) (same_Some x y (sym at ∙ ap (slice_get list) (omega (arith, next)) ∙ found)) is;
      left = rw (typed_left c.args.types.now.declared list place x at, none_unknown types x.of number is) at before.left;
    }

pub returns : goal.returns
returns g c =
    let list = map typed_view c.args.list.now.items in
    let past : length list ≤ c.loop-place.place = omega (arith, c.loop-place-test.false, c.len-place-end.ensures, length-map c.args.list.now.items typed_view) in
    let all = c.loop-place.invariant in
    let numbers = rw (take_all c.loop-place.place list past) at all.numbers in
    record {
      told = all.types;
      kept = all.kept;
      passes = sym (rw (drop_all c.loop-place.place list past) at all.left);
      numbers = numbers;
      many = AllZip-long _ list c.loop-place.numbers.items numbers;
    }
