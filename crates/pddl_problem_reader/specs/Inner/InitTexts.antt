-- Items of `:init` read from the text, behind words up to a place. No public contract names these.
use Rattle.std.specs.Prelude.{◌≡◌, ℕ, List, [], ◌∷◌, ◌++◌, map}
use Rattle.pddl_token.specs.declared.token.TokenKind.TheVariants.{Close}
use Rattle.pddl_token.specs.Spelling.{PlacedWord}
use Rattle.pddl_token.specs.Trees.{Tree, Placed, placed_leaf, erased}
use Rattle.pddl_token.specs.TreeWords.{SpellsName, Each}
use Rattle.pddl_scan.specs.Scanning.{LexedTo}
use Rattle.pddl_text.specs.Lists.{AreItems}

-- these words spell these names, one each
abbrev pub AreNames : List (List ℕ) → List PlacedWord → Type 0
AreNames names words = Each SpellsName names (map erased (map placed_leaf words))

-- behind words stand these names
pub record ReadsNames (text : List ℕ) (words : List PlacedWord) (at : ℕ) (names : List (List ℕ)) : Type 0 where
  pub more : List PlacedWord
  pub are : AreNames names more
  pub lexed : LexedTo text (words ++ more) at

-- and then a closing
pub record ReadsObjects (text : List ℕ) (words : List PlacedWord) (at : ℕ) (names : List (List ℕ)) : Type 0 where
  pub more : List PlacedWord
  pub are : AreNames names more
  pub closing : PlacedWord
  pub is_close : closing.kind ≡ Close
  pub lexed : LexedTo text ((words ++ more) ++ closing ∷ []) at

-- behind words stands an item of which this holds, whose lists are so many levels deep at most
pub record ReadsTree (Holds : Tree → Type 0) (text : List ℕ) (words : List PlacedWord) (levels at : ℕ) : Type 0 where
  pub more : List PlacedWord
  pub item : Placed
  pub lexed : LexedTo text (words ++ more) at
  pub form : AreItems levels more (item ∷ [])
  pub holds : Holds (erased item)
