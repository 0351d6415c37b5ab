use Rattle.std.proofs.Common.{◌≡◌, ℕ, ◌<◌, ◌*◌, bit_and}
use Rattle.pddl_bit_rows.specs.BitRows.{word_at}
use Rattle.pddl_bit_rows.proofs.kernels.rows_disjoint.Given as goal

abbrev pub invariant-loop-block : goal.invariant-loop-block
invariant-loop-block l = (k : ℕ) → k < 8 * l.block → bit_and (word_at l.a k) (word_at l.b k) ≡ 0

abbrev pub invariant-loop-at : goal.invariant-loop-at
invariant-loop-at l = (k : ℕ) → k < l.at → bit_and (word_at l.a k) (word_at l.b k) ≡ 0
