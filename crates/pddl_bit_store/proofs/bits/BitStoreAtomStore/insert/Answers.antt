use Rattle.std.proofs.Common.{◌≡◌, ◌∙◌, ap, subst, sym}
use Rattle.std.specs.Prelude.{Result, Ok, Err, OnErr}
use Rattle.pddl_mixed_rows.specs.MixedRows.{is_set}
use Rattle.pddl_bit_store.specs.Numbering.{number_of, IsWithin, numbered_content}
use Rattle.pddl_bit_store.proofs.NumberingLaws.{kept_within, kept_content, put_within, inserted_content}
use Rattle.pddl_bit_store.proofs.bits.BitStoreAtomStore.insert.Goals as goal

on_err : {T E : Type 0} (r : Result T E) (P : Type 0) → P → OnErr r P
on_err (Ok x) P is = tt
on_err (Err e) P is = is

pub returns : goal.returns
returns g c =
    let t = c.args.self.now.atoms.keys in
    let n = c.number.new.self.atoms.keys in
    let atom = c.args.atom.now in
    let old = is_set c.args.set.now.row in
    let new = is_set c.put_place.new.row in
    let place = c.in_ok-place.place in
    let grown = c.in_ok-place.ensures.ok in
    record {
      own = (put_within n old new place c.in_ok-place.ensures.within c.in_ok-put_place.ensures.ok (kept_within t n atom old grown c.requires.0), c.in_ok-put_place.ensures.orderly);
      ok = inserted_content t n atom old new place grown c.in_ok-place.ensures.place c.in_ok-place.ensures.within c.requires.0 c.in_ok-put_place.ensures.ok;
      err = tt;
      others_own = λ s h. (kept_within t n atom (is_set s.row) grown h.0, h.1);
      others = λ s h. kept_content t n atom (is_set s.row) grown h.0;
    }

pub returns-in_err-put_place-clause-own : goal.returns-in_err-put_place-clause-own
returns-in_err-put_place-clause-own g c =
    (λ i past. c.in_err-put_place.ensures.err i ∙ kept_within c.args.self.now.atoms.keys c.number.new.self.atoms.keys c.args.atom.now (is_set c.args.set.now.row) c.in_ok-place.ensures.ok c.requires.0 i past, c.in_err-put_place.ensures.orderly)

pub returns-in_err-put_place-clause-others_own : goal.returns-in_err-put_place-clause-others_own
returns-in_err-put_place-clause-others_own g c = λ s h.
    (kept_within c.args.self.now.atoms.keys c.number.new.self.atoms.keys c.args.atom.now (is_set s.row) c.in_ok-place.ensures.ok h.0, h.1)

pub returns-in_err-put_place-clause-others : goal.returns-in_err-put_place-clause-others
returns-in_err-put_place-clause-others g c = λ s h. kept_content c.args.self.now.atoms.keys c.number.new.self.atoms.keys c.args.atom.now (is_set s.row) c.in_ok-place.ensures.ok h.0

pub returns-in_err-place-clause-own : goal.returns-in_err-place-clause-own
returns-in_err-place-clause-own g c = (subst (λ n. IsWithin n (is_set c.args.set.now.row)) (sym c.in_err-place.ensures.err) c.requires.0, c.requires.1)

pub returns-in_err-place-clause-others_own : goal.returns-in_err-place-clause-others_own
returns-in_err-place-clause-others_own g c = λ s h. (subst (λ n. IsWithin n (is_set s.row)) (sym c.in_err-place.ensures.err) h.0, h.1)

pub returns-in_err-place-clause-others : goal.returns-in_err-place-clause-others
returns-in_err-place-clause-others g c = λ s h. ap (λ n. numbered_content n (is_set s.row)) c.in_err-place.ensures.err

pub returns-in_err-put_place-clause-err : goal.returns-in_err-put_place-clause-err
returns-in_err-put_place-clause-err g c =
    let t = c.args.self.now.atoms.keys in
    let n = c.number.new.self.atoms.keys in
    let old = is_set c.args.set.now.row in
    let same : numbered_content n (is_set c.put_place.new.row) ≡ numbered_content t old = (λ j x. c.in_err-put_place.ensures.err (number_of n x) j) ∙ kept_content t n c.args.atom.now old c.in_ok-place.ensures.ok c.requires.0 in
    on_err c.from_residual-in_err-put_place.result (numbered_content n (is_set c.put_place.new.row) ≡ numbered_content t old) same

pub returns-in_err-place-clause-err : goal.returns-in_err-place-clause-err
returns-in_err-place-clause-err g c =
    let t = c.args.self.now.atoms.keys in
    let n = c.number.new.self.atoms.keys in
    let old = is_set c.args.set.now.row in
    on_err c.from_residual.result (numbered_content n old ≡ numbered_content t old) (ap (λ l. numbered_content l old) c.in_err-place.ensures.err)
