use Rattle.std.proofs.Common.{◌<◌, ◌+◌, ◌^◌, ◌≡◌, ◌==◌, ◌-◌, not, unwrap_or, length, get_or, slice_get, map, take, Some, [], ◌∷◌, refl, sym, ap, ◌∙◌, arith}
use Rattle.std.proofs.lemmas.Bool.Decides.{nat_tests}
use Rattle.std.proofs.lemmas.List.{drop_all}
use Rattle.std.proofs.lemmas.Simd.{map-map}
use Rattle.pddl_domain.specs.Declarations.{type_view}
use Rattle.pddl_task.specs.Names.{is_in, item_of}
use Rattle.pddl_task.specs.Types.{types_of}
use Rattle.pddl_types.proofs.SharedTypes.{of_next}
use Rattle.pddl_types.specs.TypeTables.{StandsAt, IsTableOf, parent_place}
use Rattle.pddl_types.proofs.TypeTables.{stands_on, again, put_under, parent_put}
use Rattle.pddl_faults.proofs.ListTurns.{seen_more, viewed_at}
use Rattle.pddl_faults.proofs.SeenItems.{seen_bad, seen_good}
use Rattle.pddl_types.proofs.types.put_types.Goals.{then-not-shares+in_ok-over, else-not-shares}
use Rattle.pddl_types.proofs.types.put_types.Goals as goal

pub returns-then-unwrap_or-ne0-clause-once : goal.returns-then-unwrap_or-ne0-clause-once
returns-then-unwrap_or-ne0-clause-once g c =
    let l = c.loop-number in
    let xs = c.args.declared.now.items in
    let told = map type_view (take l.number xs) in
    let x = c.index-deref-number.result in
    let low : l.number < length xs = omega (arith, c.loop-number-test.true, c.len-number-end.ensures) in
    let at : x ≡ get_or xs l.number x = c.index-deref-number.is ∙ ap (λ ys. get_or ys l.number x) c.deref.ensures.value in
    let declared : not (unwrap_or (parent_place c.if-not-shares.parents.entries (type_view x).item) 0 == 0) ≡ is_in (map item_of told) (type_view x).item =
    elim c.if-not-shares.branch [
      | then-not-shares+in_ok-over w ↦
          rw w.parents-is ((parent_put told l.parents.entries w.put_new.new.table.entries w.as_bytes.result w.in_ok-over.over _ refl l.invariant.table w.in_ok-over.ensures.place.0 w.in_ok-over.ensures.entries w.in_ok-over.ensures.unique).0.declared (type_view x).item)
      | else-not-shares w ↦ rw w.parents-is (l.invariant.table.declared (type_view x).item)
    ] in
    let held : unwrap_or (parent_place c.if-not-shares.parents.entries (type_view x).item) 0 ≡ c.unwrap_or.result = rw (← c.as_bytes-name.ensures.value) (ap (λ o. unwrap_or o 0) (sym c.in_ok-insert-2.ensures.old) ∙ sym c.unwrap_or.ensures) in
    rw (map-map, c.as_bytes-name.ensures.value)
    (refl, seen_bad (λ t. item_of (type_view t)) (λ n. n) is_in [] xs l.number x low at l.invariant.left (rw (← map-map item_of type_view (take l.number xs)) (sym declared ∙ grind (arith, nat_tests, held))))

pub loop-number-preserved : goal.loop-number-preserved
loop-number-preserved g c =
    let l = c.loop-number in
    let xs = c.args.declared.now.items in
    let told = map type_view (take l.number xs) in
    let x = c.index-deref-number.result in
    let low : l.number < length xs = omega (arith, c.loop-number-test.true, c.len-number-end.ensures) in
    let at : x ≡ get_or xs l.number x = c.index-deref-number.is ∙ ap (λ ys. get_or ys l.number x) c.deref.ensures.value in
    let here : slice_get (map type_view xs) l.number ≡ Some (type_view x) = viewed_at type_view xs l.number x low at in
    let rows = c.if-not-shares.parents.entries in
    let over = c.if-not-shares.over in
    let ready : IsTableOf ((type_view x).of ∷ types_of told) told rows × StandsAt rows over (type_view x).of × (over < 2 ^ 63) =
    elim c.if-not-shares.branch [
      | then-not-shares+in_ok-over w ↦
          let put = w.in_ok-over.ensures in
          let (table, stands) = parent_put told l.parents.entries w.put_new.new.table.entries w.as_bytes.result w.in_ok-over.over _ refl l.invariant.table put.place.0 put.entries put.unique in
          rw (w.parents-is, w.over-is, ← w.deref-then-not-shares.ensures, ← w.as_bytes.ensures.value) (table, stands, put.place.1)
      | else-not-shares w ↦
          let there = of_next (λ n. StandsAt l.parents.entries l.over n) (map type_view xs) (l.number - 1) l.number (c.shares.ensures.same w.if-not-shares.false)
          (λ y found. l.invariant.last (l.number - 1) y (omega (arith, c.shares.ensures.later w.if-not-shares.false)) found) (type_view x) here in
          rw (w.parents-is, w.over-is) (again (types_of told) told l.parents.entries l.over (type_view x).of there l.invariant.table, there, l.invariant.small)
    ] in
    let after = c.insert-in-loop-number.new.self.entries in
    let held : unwrap_or (parent_place rows (type_view x).item) 0 ≡ c.unwrap_or.result = rw (← c.as_bytes-name.ensures.value) (ap (λ o. unwrap_or o 0) (sym c.in_ok-insert-2.ensures.old) ∙ sym c.unwrap_or.ensures) in
    let child = c.as_bytes-name.result in
    record {
      table = rw (seen_more type_view [] xs l.number x low at)
          (put_under rows after child over c.in_ok-insert-2.ensures.entries c.in_ok-insert-2.ensures.unique told (type_view x) ready.0 (sym c.as_bytes-name.ensures.value) ready.1);
      last = λ j y next found. rw c.in_ok-insert-2.ensures.entries (grind (arith, here, found, next, stands_on rows child (over + 1) over (type_view x).of ready.1));
      small = ready.2;
      left = seen_good (λ t. item_of (type_view t)) (λ n. n) is_in [] xs l.number x low at l.invariant.left (rw (← map-map item_of type_view (take l.number xs)) (sym (ready.0.declared (type_view x).item) ∙ grind (arith, nat_tests, held)));
    }

pub returns-clause-once : goal.returns-clause-once
returns-clause-once g c =
    let none = drop_all c.loop-number.number c.args.declared.now.items (omega (arith, c.loop-number-test.false, c.len-number-end.ensures)) in
    rw map-map (sym (rw none at c.loop-number.invariant.left))
