use Rattle.std.proofs.Common.{◌≡◌, ◌-◌, ◌<◌, ◌≤◌, ◌&&◌, true, length, take, filter}
use Rattle.pddl_mixed_rows.specs.MixedRows.{is_set}
use Rattle.pddl_bit_store.specs.Numbering.{numbered_content}
use Rattle.pddl_bit_store.proofs.bits.BitStoreAtomStore.list.Given as goal

-- here is a bit that is set or the end, and the atoms before are listed
abbrev pub invariant-loop-place : goal.invariant-loop-place
invariant-loop-place g l = record {
  within : l.place ≤ length l.self.atoms.keys;
  bit : l.place < length l.self.atoms.keys → (is_set l.set.row l.place && is_set l.set.row l.place) ≡ true;
  listed : l.all.items ≡ filter (numbered_content l.self.atoms.keys (is_set l.set.row)) (take l.place l.self.atoms.keys);
}

abbrev pub decreases-loop-place : goal.decreases-loop-place
decreases-loop-place g l = length l.self.atoms.keys - l.place
