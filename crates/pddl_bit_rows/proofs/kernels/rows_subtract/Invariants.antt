use Rattle.std.proofs.Common.{◌≡◌, ℕ, ◌<◌, ◌≤◌, ◌*◌, bit_and}
use Rattle.std.specs.Int.{bit_not, w64}
use Rattle.pddl_bit_rows.specs.BitRows.{word_at}
use Rattle.pddl_bit_rows.proofs.kernels.rows_subtract.Given as goal

abbrev pub invariant-loop-block : goal.invariant-loop-block
invariant-loop-block l = record {
  done : (k : ℕ) → k < 8 * l.block → word_at l.row k ≡ bit_and (word_at l.fn.row k) (bit_not w64 (word_at l.less k));
  rest : (k : ℕ) → 8 * l.block ≤ k → word_at l.row k ≡ word_at l.fn.row k;
}

abbrev pub invariant-loop-at : goal.invariant-loop-at
invariant-loop-at l = record {
  done : (k : ℕ) → k < l.at → word_at l.row k ≡ bit_and (word_at l.fn.row k) (bit_not w64 (word_at l.less k));
  rest : (k : ℕ) → l.at ≤ k → word_at l.row k ≡ word_at l.fn.row k;
}
