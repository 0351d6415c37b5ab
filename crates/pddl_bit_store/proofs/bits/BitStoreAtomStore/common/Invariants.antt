use Rattle.std.proofs.Common.{◌≡◌, ◌-◌, ◌<◌, ◌≤◌, ◌&&◌, true, length}
use Rattle.pddl_mixed_rows.specs.MixedRows.{is_set}
use Rattle.pddl_bit_store.specs.Numbering.{IsLeastCommon}
use Rattle.pddl_bit_store.proofs.bits.BitStoreAtomStore.common.Given as goal

-- here is a shared bit or the end, and the least so far is that of the places before
abbrev pub invariant-loop-place : goal.invariant-loop-place
invariant-loop-place g l = record {
  within : l.place ≤ length l.self.atoms.keys;
  bit : l.place < length l.self.atoms.keys → (is_set l.a.row l.place && is_set l.b.row l.place) ≡ true;
  least : IsLeastCommon l.self.atoms.keys (is_set l.a.row) (is_set l.b.row) l.place l.least;
}

abbrev pub decreases-loop-place : goal.decreases-loop-place
decreases-loop-place g l = length l.self.atoms.keys - l.place
