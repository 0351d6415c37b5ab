-- Typed lists of names read from the text, behind words up to a place. No public contract names these.
use Rattle.std.specs.Prelude.{ℕ, List, ◌++◌, map}
use Rattle.pddl_token.specs.Spelling.{PlacedWord}
use Rattle.pddl_token.specs.Trees.{Tree, Placed, erased}
use Rattle.pddl_scan.specs.Scanning.{LexedTo}
use Rattle.pddl_text.specs.Lists.{AreItems}
use Rattle.pddl_formula.specs.TypedLists.{TypedValue, AreTypedNames}

-- behind words stand groups of names, each with its type: they and a typed list behind them are one typed list
pub record ReadsGroups (text : List ℕ) (words : List PlacedWord) (at : ℕ) (found : List TypedValue) : Type 0 where
  pub more : List PlacedWord
  pub items : List Placed
  pub lexed : LexedTo text (words ++ more) at
  pub form : AreItems 126 more items
  pub before : (xs : List TypedValue) (ts : List Tree) → AreTypedNames xs ts → AreTypedNames (found ++ xs) (map erased items ++ ts)
