use Rattle.std.proofs.Common.{◌≡◌, ℕ, ◌-◌, ◌<◌, ◌≤◌, ◌&&◌, false}
use Rattle.pddl_bit_rows.specs.BitRows.{has_bit}
use Rattle.pddl_bit_rows.proofs.row.next_shared_bit.Given as goal

-- no bit is shared from the start up to here
abbrev pub invariant-loop-place : goal.invariant-loop-place
invariant-loop-place l = record {
  after : l.from ≤ l.place;
  before : l.place ≤ l.end;
  passed : (i : ℕ) → l.from ≤ i → i < l.place → (has_bit l.a i && has_bit l.b i) ≡ false;
}

abbrev pub decreases-loop-place : goal.decreases-loop-place
decreases-loop-place l = l.end - l.place
