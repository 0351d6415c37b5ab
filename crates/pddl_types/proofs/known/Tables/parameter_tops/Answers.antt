use Rattle.std.proofs.Common.{◌≡◌, ℕ, true, List, length, get_or, Some, slice_get, refl, sym, subst, ltb, ltb-true, ltb-false, IsSomeAnd}
use Rattle.std.proofs.lemmas.Option.{slice_get_past, slice_get_read}
use Rattle.pddl_types.specs.Told.{IsAt}
use Rattle.pddl_types.proofs.ToldTypes.{apart_there, tops_there}
use Rattle.pddl_types.proofs.SignatureTables.{some_row, number_there}
use Rattle.pddl_types.proofs.known.Tables.parameter_tops.Goals as goal

-- an item that is read
item_is : {X : Type 0} (xs : List X) (i : ℕ) (x : X) → true ≡ ltb i (length xs) → x ≡ get_or xs i x → slice_get xs i ≡ Some x
item_is xs i x low is = slice_get_read xs (length xs) i x refl (ltb-true i (length xs) (sym low)) is

pub returns-in-Some-get-clause-apart : goal.returns-in-Some-get-clause-apart
returns-in-Some-get-clause-apart g c = λ t are. rw c.at.ensures (apart_there are c.in-Some-get.number.now)

pub returns-in-Some-get-clause-told : goal.returns-in-Some-get-clause-told
returns-in-Some-get-clause-told g c = λ d objects a x are here there.
    let row = c.in-Some.numbers.now in
    let row_is = subst (λ rows. slice_get rows c.args.action ≡ Some row) c.deref.ensures.value (item_is c.deref.result.now c.args.action row c.in-Some.ensures.lookup.0 c.in-Some.ensures.lookup.1) in
    let told : IsSomeAnd (slice_get row.items c.args.parameter) (IsAt c.args.self.now.told x.of) =
    number_there c.args.self.now.told d.actions _ are.actions c.args.action c.args.parameter a x here there row row_is
    in
    let read = item_is c.deref-in-Some.result.now c.args.parameter c.in-Some-get.number.now c.in-Some-get.ensures.lookup.0 c.in-Some-get.ensures.lookup.1 in
    rw c.at.ensures (tops_there are.types x.of _ (rw (← c.deref-in-Some.ensures.value, read) at told)).0

pub returns-in-None-get-clause-told : goal.returns-in-None-get-clause-told
returns-in-None-get-clause-told g c = λ d objects a x are here there.
    let row = c.in-Some.numbers.now in
    let row_is = subst (λ rows. slice_get rows c.args.action ≡ Some row) c.deref.ensures.value (item_is c.deref.result.now c.args.action row c.in-Some.ensures.lookup.0 c.in-Some.ensures.lookup.1) in
    let told : IsSomeAnd (slice_get row.items c.args.parameter) (IsAt c.args.self.now.told x.of) =
    number_there c.args.self.now.told d.actions _ are.actions c.args.action c.args.parameter a x here there row row_is
    in
    let numbers = c.deref-in-Some.result.now in
    let past = slice_get_past numbers c.args.parameter (ltb-false c.args.parameter (length numbers) (sym c.in-None-get.ensures.lookup.0)) in
    absurd (rw (← c.deref-in-Some.ensures.value, past) at told)

pub returns-in-None-clause-told : goal.returns-in-None-clause-told
returns-in-None-clause-told g c = λ d objects a x are here there.
    let rows = c.deref.result.now in
    let past = slice_get_past rows c.args.action (ltb-false c.args.action (length rows) (sym c.in-None.ensures.lookup.0)) in
    absurd (some_row c.args.self.now.told d.actions c.args.self.now.known.actions.items are.actions c.args.action c.args.parameter a x here there (rw c.deref.ensures.value at past))
