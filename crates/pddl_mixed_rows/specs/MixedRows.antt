-- Rows in either form: of few bits by their numbers, or by all words. Own.
use Rattle.std.specs.Prelude.{ℕ, Bool}
use Rattle.pddl_bit_rows.specs.BitRows.{has_bit}
use Rattle.pddl_mixed_rows.specs.SparseRows.{has_number, AreRising}
use Rattle.pddl_mixed_rows.specs.declared.mixed.Row.{Row}
use Rattle.pddl_mixed_rows.specs.declared.mixed.Row.TheVariants.{Few, Full}

-- Whether the bit of a row at a place is set.
abbrev pub is_set : {A : Type 0} → Row A → ℕ → Bool
is_set (Few numbers) i = has_number numbers.items i
is_set (Full words) i = has_bit words.items i

-- The numbers of a row of few bits rise.
abbrev pub IsOrderly : {A : Type 0} → Row A → Type 0
IsOrderly (Few numbers) = AreRising numbers.items
IsOrderly (Full words) = Unit {0}

-- The row has all its words.
abbrev pub IsFull : {A : Type 0} → Row A → Type 0
IsFull (Few numbers) = ⊥
IsFull (Full words) = Unit {0}
