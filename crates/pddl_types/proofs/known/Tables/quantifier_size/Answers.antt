use Rattle.std.proofs.Common.{◌∷◌, ◌≡◌, suc, drop, drop-cons, ◌<◌, ◌≤◌, ◌-◌, ◌∙◌, [], get_or, slice_get, Some, map, length, sym, ap, arith}
use Rattle.std.proofs.lemmas.List.{drop_all, length-map}
use Rattle.std.proofs.lemmas.Option.{slice_get_past, slice_get-get_or}
use Rattle.pddl_formula.specs.TypedLists.{TypedValue, typed_view}
use Rattle.pddl_task.specs.GroundSize.{capped, quantifier_size}
use Rattle.pddl_types.proofs.Capped.{capped_product}
use Rattle.pddl_types.proofs.SharedTypes.{of_next, type_at}
use Rattle.pddl_types.specs.Known.{count_in}
use Rattle.pddl_types.proofs.known.Tables.quantifier_size.Goals.{then-not-shares, else-not-shares}
use Rattle.pddl_types.proofs.known.Tables.quantifier_size.Goals as goal

pub loop-i-init : goal.loop-i-init
loop-i-init g c =
    let items = c.args.variables.now.items in
    let all = map typed_view items in
    let past : length all ≤ c.len-i.result = omega (arith, length-map items typed_view, c.len-i.ensures) in
    record {
      so_far = c.sum-size.ensures ∙ ap (λ ys. capped (quantifier_size (count_in c.args.self.now.known) ys c.args.body)) (sym (drop_all c.len-i.result all past));
      last = λ x at. let none = slice_get_past all c.len-i.result past in cc;
    }

pub loop-i-preserved : goal.loop-i-preserved
loop-i-preserved g c =
    let l = c.loop-i in
    let items = c.args.variables.now.items in
    let all = map typed_view items in
    let count = count_in c.args.self.now.known in
    let low : l.i - 1 < length items = omega (arith, c.loop-i-test.true, l.auto.i, c.len-i.ensures) in
    let next : suc (l.i - 1) ≡ l.i = omega (arith, c.loop-i-test.true) in
    let told : (x : TypedValue) → slice_get all (l.i - 1) ≡ Some x → c.if-not-shares.count ≡ count x.of = elim c.if-not-shares.branch [
      | then-not-shares w ↦ λ x at. w.count-is ∙ w.fitting_count-count.ensures ∙ ap count (type_at items w.deref.result.now (l.i - 1) w.index-deref-i.result x w.deref.ensures.value low w.index-deref-i.is at)
      | else-not-shares w ↦ λ x at.
          let (y, z, here, there, same) = c.shares.ensures.same w.if-not-shares.false in
          w.count-is ∙ of_next (λ t. l.count ≡ count t) all l.i (l.i - 1) (z, y, ap (slice_get all) (omega (arith, c.loop-i-test.true)) ∙ there, ap (slice_get all) (omega arith) ∙ here, sym same) l.invariant.last x at
    ] in
    let none : TypedValue = record { item = []; of = [] } in
    let x = get_or all (l.i - 1) none in
    let inside : l.i - 1 < length all = omega (arith, length-map items typed_view, low) in
    let front : drop (l.i - 1) all ≡ x ∷ drop l.i all = drop-cons all (l.i - 1) none inside ∙ ap (λ n. x ∷ drop n all) next in
    let part = capped_product (count x.of) l.size (quantifier_size count (drop l.i all) c.args.body) (omega (arith, l.invariant.so_far)) in
    let product = rw (told x (slice_get-get_or all (l.i - 1) _ inside)) at c.saturating_mul.ensures in
    record { so_far = rw front (omega (arith, part, product, c.min.ensures, c.sum-size-in-loop-i.ensures)); last = told }
