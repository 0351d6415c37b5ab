use Rattle.std.proofs.Common.{◌≡◌, ◌+◌, ◌<◌, ◌≤◌, ℕ, Bool, Option, None, Some, List, length, get_or, subst, ap, sym, ◌∙◌, arith}
use Rattle.std.specs.Prelude.{IfSome}
use Rattle.std.specs.Cmp.{first_so, second_so}
use Rattle.pddl_state.specs.Atoms.{AtomValue}
use Rattle.pddl_mixed_rows.specs.MixedRows.{is_set}
use Rattle.pddl_bit_store.specs.Numbering.{IsLeastCommon}
use Rattle.pddl_bit_store.proofs.NumberingLaws.{shared_at}
use Rattle.pddl_bit_store.proofs.LeastShared.{least_content, least_to, none_common}
use Rattle.pddl_bit_store.proofs.bits.BitStoreAtomStore.common.Goals as goal

best_within : (t : List AtomValue) (a b : ℕ → Bool) (n : ℕ) (o : Option ℕ) → n ≤ length t → IsLeastCommon t a b n o → IfSome o (λ m. m < length t)
best_within t a b n None h least = tt
best_within t a b n (Some m) h least = omega (arith, h, least.0)

pub loop-place-init : goal.loop-place-init
loop-place-init g c =
    let first = c.next_shared_place-place.result in
    let keys = c.as_slice-table.ensures.keys in
    record {
      within = subst (λ l. first ≤ length l) keys c.next_shared_place-place.ensures.end;
      bit = λ h. c.next_shared_place-place.ensures.found (subst (λ l. first < length l) (sym keys) h);
      least = λ k below. c.next_shared_place-place.ensures.passed k (omega arith) below;
    }

pub lesser-least-requires : goal.lesser-least-requires
lesser-least-requires g c =
    let a = is_set c.args.a.now.row in
    let b = is_set c.args.b.now.row in
    let least : IfSome c.loop-place.least (λ m. m < length c.args.self.now.atoms.keys) = best_within c.args.self.now.atoms.keys a b c.loop-place.place c.loop-place.least c.loop-place.invariant.within c.loop-place.invariant.least in
    record {
      place = c.loop-place-test.true;
      best = subst (λ (l : List AtomValue). IfSome c.loop-place.least (λ m. m < length l)) (sym c.as_slice-table.ensures.keys) least;
    }

pub loop-place-smaller : goal.loop-place-smaller
loop-place-smaller g c =
    let below : c.loop-place.place < length c.args.self.now.atoms.keys = subst (λ l. c.loop-place.place < length l) c.as_slice-table.ensures.keys c.loop-place-test.true in
    omega (arith, below, c.next_shared_place-place-in-loop-place.ensures.from)

pub bounds-table-place : goal.bounds-table-place
bounds-table-place g c =
    let P : Option ℕ → Type 0 = λ o. IsLeastCommon c.args.self.now.atoms.keys (is_set c.args.a.now.row) (is_set c.args.b.now.row) c.loop-place.place o in
    let h = subst P c.in-Some.is c.loop-place.invariant.least in
    let below : c.in-Some.place < length c.args.self.now.atoms.keys = omega (arith, h.0, c.loop-place.invariant.within) in
    subst (λ (l : List AtomValue). c.in-Some.place < length l) (sym c.as_slice-table.ensures.keys) below

pub returns-in-None : goal.returns-in-None
returns-in-None g c =
    let t = c.args.self.now.atoms.keys in
    let a = is_set c.args.a.now.row in
    let b = is_set c.args.b.now.row in
    let P : Option ℕ → Type 0 = λ o. IsLeastCommon c.args.self.now.atoms.keys (is_set c.args.a.now.row) (is_set c.args.b.now.row) c.loop-place.place o in
    let past : length c.args.self.now.atoms.keys ≤ c.loop-place.place = subst (λ l. length l ≤ c.loop-place.place) c.as_slice-table.ensures.keys c.loop-place-test.false in
    record {
      common = none_common t a b c.loop-place.place past c.requires.a_own.0 (subst P c.in-None.is c.loop-place.invariant.least);
      least = tt;
    }

pub loop-place-preserved : goal.loop-place-preserved
loop-place-preserved g c =
    let t = c.args.self.now.atoms.keys in
    let a = is_set c.args.a.now.row in
    let b = is_set c.args.b.now.row in
    let next = c.next_shared_place-place-in-loop-place.result in
    let keys = c.as_slice-table.ensures.keys in
    let below : c.loop-place.place < length c.args.self.now.atoms.keys = subst (λ l. c.loop-place.place < length l) keys c.loop-place-test.true in
    let before = subst (λ l. IsLeastCommon l a b c.loop-place.place c.loop-place.least) (sym keys) c.loop-place.invariant.least in
    let so_far = subst (λ l. IsLeastCommon l a b (c.loop-place.place + 1) c.lesser-least.result) keys (c.lesser-least.ensures a b before (c.loop-place.invariant.bit below)) in
    record {
      within = subst (λ l. next ≤ length l) keys c.next_shared_place-place-in-loop-place.ensures.end;
      bit = λ h. c.next_shared_place-place-in-loop-place.ensures.found (subst (λ l. next < length l) (sym keys) h);
      least = least_to t a b (c.loop-place.place + 1) next c.lesser-least.result c.next_shared_place-place-in-loop-place.ensures.from c.next_shared_place-place-in-loop-place.ensures.passed so_far;
    }

pub returns-in_ok-copy-in-Some-clause-common : goal.returns-in_ok-copy-in-Some-clause-common
returns-in_ok-copy-in-Some-clause-common g c =
    let t = c.args.self.now.atoms.keys in
    let a = is_set c.args.a.now.row in
    let b = is_set c.args.b.now.row in
    let m = c.in-Some.place in
    let P : Option ℕ → Type 0 = λ o. IsLeastCommon c.args.self.now.atoms.keys (is_set c.args.a.now.row) (is_set c.args.b.now.row) c.loop-place.place o in
    let h = subst P c.in-Some.is c.loop-place.invariant.least in
    let below : c.in-Some.place < length c.args.self.now.atoms.keys = omega (arith, h.0, c.loop-place.invariant.within) in
    let here : c.index-table-place.result ≡ get_or c.args.self.now.atoms.keys c.in-Some.place c.index-table-place.result = subst (λ l. c.index-table-place.result ≡ get_or l c.in-Some.place c.index-table-place.result) c.as_slice-table.ensures.keys c.index-table-place.is in
    shared_at t a b c.in_ok-copy-in-Some.field-0 c.index-table-place.result m c.args.self.now.distinct below c.in_ok-copy-in-Some.ensures here (first_so (a m) (b m) h.1) (second_so (a m) (b m) h.1)

pub returns-in_ok-copy-in-Some-clause-least : goal.returns-in_ok-copy-in-Some-clause-least
returns-in_ok-copy-in-Some-clause-least g c =
    let t = c.args.self.now.atoms.keys in
    let P : Option ℕ → Type 0 = λ o. IsLeastCommon c.args.self.now.atoms.keys (is_set c.args.a.now.row) (is_set c.args.b.now.row) c.loop-place.place o in
    let h = subst P c.in-Some.is c.loop-place.invariant.least in
    let past : length c.args.self.now.atoms.keys ≤ c.loop-place.place = subst (λ l. length l ≤ c.loop-place.place) c.as_slice-table.ensures.keys c.loop-place-test.false in
    let below : c.in-Some.place < length c.args.self.now.atoms.keys = omega (arith, h.0, c.loop-place.invariant.within) in
    let here : c.index-table-place.result ≡ get_or c.args.self.now.atoms.keys c.in-Some.place c.index-table-place.result = subst (λ l. c.index-table-place.result ≡ get_or l c.in-Some.place c.index-table-place.result) c.as_slice-table.ensures.keys c.index-table-place.is in
    let copied : c.in_ok-copy-in-Some.field-0 ≡ c.index-table-place.result = c.in_ok-copy-in-Some.ensures in
    let is : c.in_ok-copy-in-Some.field-0 ≡ get_or c.args.self.now.atoms.keys c.in-Some.place c.in_ok-copy-in-Some.field-0 = copied ∙ (here ∙ ap (get_or c.args.self.now.atoms.keys c.in-Some.place) (sym copied)) in
    least_content t (is_set c.args.a.now.row) (is_set c.args.b.now.row) c.loop-place.place c.in-Some.place c.in_ok-copy-in-Some.field-0 past below c.requires.a_own.0 is h
