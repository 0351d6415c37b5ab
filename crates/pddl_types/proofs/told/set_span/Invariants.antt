use Rattle.std.proofs.Common.{◌≡◌, ◌||◌, ◌≤◌, ℕ}
use Rattle.pddl_bit_rows.specs.BitRows.{has_bit}
use Rattle.pddl_types.proofs.TopRows.{below}
use Rattle.pddl_types.proofs.told.set_span.Given as goal

-- the bits of the numbers so far are set
abbrev pub invariant-loop-number : goal.invariant-loop-number
invariant-loop-number g l = record {
  from : l.fn.span.first ≤ l.number;
  bits : (i : ℕ) → has_bit l.row.items i ≡ (below l.fn.span l.number i || has_bit l.initial.row.items i);
}
