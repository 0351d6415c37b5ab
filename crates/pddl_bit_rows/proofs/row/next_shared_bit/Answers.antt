use Rattle.std.proofs.Common.{◌≡◌, ℕ, ◌+◌, ◌/◌, ◌^◌, ◌<◌, ◌&&◌, true, subst, inl, inr, arith, w64}
use Rattle.std.specs.Int.{trailing_zeros}
use Rattle.std.proofs.lemmas.Bool.Decides.{leb_tells}
use Rattle.pddl_bit_rows.specs.BitRows.{has_bit}
use Rattle.pddl_bit_rows.proofs.SharedBits.{shared_rest, shared_none, shared_lowest}
use Rattle.pddl_bit_rows.proofs.row.next_shared_bit.Goals as goal

pub returns-then-rest-ne0-clause-passed : goal.returns-then-rest-ne0-clause-passed
returns-then-rest-ne0-clause-passed c = λ i from below.
    let fits : c.word.result < 2 ^ 64 = omega (arith, c.word.ensures, (c.type_inv.a (c.loop-place.place / 64)).fits) in
    let lowest = shared_lowest c.args.a.now c.args.b.now c.word.result c.word-in-loop-place.result c.loop-place.place c.word.ensures c.word-in-loop-place.ensures fits c.if-rest-ne0.true in
    elim (leb_tells c.loop-place.place i) [
      | inl (e, later) ↦ lowest.passed i later (omega arith)
      | inr (e, earlier) ↦ c.loop-place.invariant.passed i from earlier
    ]

pub returns-then-rest-ne0-clause-found : goal.returns-then-rest-ne0-clause-found
returns-then-rest-ne0-clause-found c = λ before.
    let fits : c.word.result < 2 ^ 64 = omega (arith, c.word.ensures, (c.type_inv.a (c.loop-place.place / 64)).fits) in
    let lowest = shared_lowest c.args.a.now c.args.b.now c.word.result c.word-in-loop-place.result c.loop-place.place c.word.ensures c.word-in-loop-place.ensures fits c.if-rest-ne0.true in
    let P : ℕ → Type 0 = λ n. (has_bit c.args.a.now n && has_bit c.args.b.now n) ≡ true in
    let is : c.loop-place.place + trailing_zeros w64 (shared_rest c.word.result c.word-in-loop-place.result c.loop-place.place) ≡ c.advanced.result = omega arith in
    subst P is lowest.found

pub loop-place-preserved : goal.loop-place-preserved
loop-place-preserved c = record {
  after = omega arith;
  before = omega arith;
  passed = λ i from below. elim (leb_tells c.loop-place.place i) [
    | inl (e, later) ↦ shared_none c.args.a.now c.args.b.now c.word.result c.word-in-loop-place.result c.loop-place.place c.word.ensures c.word-in-loop-place.ensures c.if-rest-ne0.false i later (omega arith)
    | inr (e, earlier) ↦ c.loop-place.invariant.passed i from earlier
  ];
}
