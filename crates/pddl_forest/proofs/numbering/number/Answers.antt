use Rattle.std.proofs.Common.{ℕ, ◌+◌, ◌<◌, ◌∙◌, eqb, length, sym, arith}
use Rattle.std.proofs.lemmas.Bool.{true≢false}
use Rattle.std.proofs.lemmas.Bool.Decides.{nat_tests}
use Rattle.std.proofs.lemmas.List.{take_at, length-set}
use Rattle.std.proofs.lemmas.List.Sums.{sum_by-set, count_by_more_yes, count_by_more_no}
use Rattle.pddl_forest.specs.Forests.{number_at}
use Rattle.pddl_forest.proofs.Peels.{at_set, are_rounds, some_round, no_round, in_order}
use Rattle.pddl_forest.proofs.numbering.number.Goals as goal

pub loop-parent-preserved : goal.loop-parent-preserved
loop-parent-preserved c =
    let ps = c.args.parents.now in
    let k = c.loop-parent.parent-index in
    let k_low = c.loop-parent-test.true in
    let left = c.loop-parent.left in
    let q : ℕ = number_at ps k in
    let h = c.loop-parent.invariant in
    let q_low : q < length left = omega (arith, c.requires.parents.within k k_low, h.counted.long) in
    record {
      counted = record {
        long = length-set left q _ ∙ h.counted.long;
        each = λ i low. grind (arith, nat_tests, at_set left q i (number_at left q + 1) 0 q_low, count_by_more_yes (eqb i) ps k 0 k_low, count_by_more_no (eqb i) ps k 0 k_low, h.counted.each i low);
      };
      many = omega (arith, sum_by-set (λ x. x) left q (number_at left q + 1) 0 q_low, h.many);
    }

pub number_from_top-requires-clause-order : goal.number_from_top-requires-clause-order
number_from_top-requires-clause-order c =
    in_order c.requires.parents c.loop-place.invariant c.loop-place-test.false c.has_round-round.ensures.left (sym c.has_round-round.ensures.some ∙ c.if-not-round.true)

pub returns-then-not-round : goal.returns-then-not-round
returns-then-not-round c = record {
  round = λ e. absurd (true≢false (sym e ∙ c.if-not-round.true));
  spans = λ _. (no_round c.requires.parents c.loop-place.invariant c.loop-place-test.false c.has_round-round.ensures.left (sym c.has_round-round.ensures.some ∙ c.if-not-round.true), c.number_from_top.ensures);
}

pub returns-else-not-round : goal.returns-else-not-round
returns-else-not-round c =
    let h = c.loop-place.invariant in
    let after = c.has_round-round.ensures.left in
    let round = some_round c.requires.parents h c.loop-place-test.false after (sym c.has_round-round.ensures.some ∙ c.if-not-round.false) in
    let left = take_at c.has_round-round.new.left c.loop-place.order (length c.args.parents.now) (omega arith) in
    record { round = λ _. (round, rw left (are_rounds c.requires.parents h c.loop-place-test.false after)); spans = λ e. absurd (true≢false (sym c.if-not-round.false ∙ e)) }
