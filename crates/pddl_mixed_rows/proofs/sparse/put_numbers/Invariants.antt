use Rattle.std.proofs.Common.{◌≡◌, ℕ, ◌||◌, take}
use Rattle.pddl_bit_rows.specs.BitRows.{has_bit}
use Rattle.pddl_mixed_rows.specs.SparseRows.{has_number}
use Rattle.pddl_mixed_rows.proofs.sparse.put_numbers.Given as goal

abbrev pub invariant-loop-number : goal.invariant-loop-number
invariant-loop-number l = (i : ℕ) → has_bit l.row i ≡ (has_bit l.fn.row i || has_number (take l.number-index l.numbers) i)
