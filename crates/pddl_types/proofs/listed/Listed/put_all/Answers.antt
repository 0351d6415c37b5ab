use Rattle.std.proofs.Common.{◌≡◌, ◌<◌, ◌≤◌, ◌==◌, false, drop, get_or, length, map, refl, ap, ◌∙◌, arith, slice_get}
use Rattle.std.specs.Option.{option_map_or}
use Rattle.std.proofs.lemmas.List.{drop_all, take_all}
use Rattle.pddl_formula.specs.TypedLists.{typed_view}
use Rattle.pddl_task.specs.Names.{word_if}
use Rattle.pddl_faults.proofs.SeenItems.{seen_at}
use Rattle.pddl_faults.proofs.ListTurns.{viewed_at, seen_more, views_drop}
use Rattle.pddl_types.specs.Objects.{is_off, off_types}
use Rattle.pddl_types.proofs.FirstFaults.{first_more, first_all}
use Rattle.pddl_types.proofs.ToldTypes.{number_at}
use Rattle.pddl_types.proofs.ObjectTables.{put_object}
use Rattle.pddl_types.proofs.listed.Listed.put_all.Goals.{in-Some, in-None}
use Rattle.pddl_types.proofs.listed.Listed.put_all.Goals as goal

pub loop-place-preserved : goal.loop-place-preserved
loop-place-preserved g c = λ told seen once numbers are.
    let xs = c.args.objects.now.items in
    let i = c.loop-place.place in
    let x = c.index-deref-place.result in
    let low : i < length xs = omega (arith, c.loop-place-test.true, c.len-place-end.ensures) in
    let is : x ≡ get_or xs i x = c.index-deref-place.is ∙ ap (λ ys. get_or ys i x) c.deref.ensures.value in
    let more = seen_more typed_view seen xs i x low is in
    let s = seen_at typed_view seen xs i in
    let (held, first) = c.loop-place.invariant told seen once numbers are in
    let number = get_or c.args.numbers.now i 0 in
    let at = number_at told (map typed_view xs) c.args.numbers.now i 0 (typed_view x) numbers (viewed_at typed_view xs i x low is) in
    let decided : c.match-get_index.is_right ≡ option_map_or (λ e. e.1.1 == number) (slice_get c.put_new.new.table.entries c.in_ok-first.first) false = elim c.match-get_index.branch [
      | in-Some w ↦ w.is_right-is ∙ ap (λ o. option_map_or (λ e. e.1.1 == number) o false) w.in-Some.ensures.entry
      | in-None w ↦ w.is_right-is ∙ ap (λ o. option_map_or (λ e. e.1.1 == number) o false) w.in-None.ensures.entry
    ] in
    let (off, put) = put_object once s held _ number at c.lent.result c.lent.ensures _ c.in_ok-first.first c.match-get_index.is_right refl c.in_ok-first.ensures.place.0 c.in_ok-first.ensures.entries decided in
    rw more (put, first_more {left = off_types s (map typed_view (drop i xs))} (word_if (is_off s (typed_view x)) x.name) c.once.result c.and-found.ensures (rw (views_drop typed_view xs i x low is) refl) (rw (← off, c.as_bytes.ensures.value) at c.once.ensures) first)

pub returns-clause-seen : goal.returns-clause-seen
returns-clause-seen g c = λ told seen once numbers are.
    let xs = c.args.objects.now.items in
    let i = c.loop-place.place in
    let past : length xs ≤ i = omega (arith, c.loop-place-test.false, c.len-place-end.ensures) in
    let (held, first) = c.loop-place.invariant told seen once numbers are in
    (first_all (ap (λ ys. off_types (seen_at typed_view seen xs i) (map typed_view ys)) (drop_all i xs past)) first, rw (take_all i xs past) at held)
