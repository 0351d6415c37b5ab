use Rattle.std.proofs.Common.{◌≡◌, ℕ, ◌-◌, ◌<◌, ◌≤◌, false, length, get_or}
use Rattle.pddl_mixed_rows.specs.MixedRows.{is_set}
use Rattle.pddl_mixed_rows.proofs.mixed.next_number_in.Given as goal

-- the numbers from here on are not below the first one asked for, and of those before that are not either none is in the row
abbrev pub invariant-loop-at : goal.invariant-loop-at
invariant-loop-at g l = record {
  within : l.at ≤ length l.numbers;
  later : (k : ℕ) → l.at ≤ k → k < length l.numbers → l.from ≤ get_or l.numbers k 0;
  passed : (k : ℕ) → k < l.at → k < length l.numbers → l.from ≤ get_or l.numbers k 0 → is_set l.row (get_or l.numbers k 0) ≡ false;
}

abbrev pub decreases-loop-at : goal.decreases-loop-at
decreases-loop-at g l = length l.numbers - l.at
