-- Objects in the order of the numbers of their types. Own.
use Rattle.std.specs.Prelude.{ℕ, List, length}
use Rattle.std.specs.List.{range_with_len}
use Rattle.std.specs.List.Sorted.{IsPermutation, IsNonDecreasingBy}
use Rattle.pddl_forest.specs.Forests.{number_at}

-- all objects, whose types have these numbers, the numbers not falling
pub record IsOrderOf (numbers order : List ℕ) : Type 0 where
  pub all : IsPermutation (range_with_len 0 (length numbers)) order
  pub rising : IsNonDecreasingBy (number_at numbers) order
