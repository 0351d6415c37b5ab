-- Rows of bits that say which numbers some spans begin at, and which they hold. Own.
use Rattle.std.specs.Prelude.{◌≡◌, ◌==◌, ℕ, List}
use Rattle.std.specs.List.{list_any}
use Rattle.pddl_bit_rows.specs.BitRows.{has_bit}
use Rattle.pddl_forest.specs.Spans.{some_holds}
use Rattle.pddl_forest.specs.declared.spans.Span.{Span}

-- one row has the bits of the numbers that some span begins at, the other those of the numbers that some span holds
pub record AreRowsOf (begun held : List ℕ) (spans : List Span) : Type 0 where
  pub begin : (i : ℕ) → has_bit begun i ≡ list_any (λ s. s.first == i) spans
  pub hold : (i : ℕ) → has_bit held i ≡ some_holds spans i
