-- What is read of a text word by word, behind words up to a place. Own, from the words of a text.
use Rattle.std.specs.Prelude.{◌≡◌, ◌≢◌, ℕ, List, [], ◌∷◌, ◌++◌}
use Rattle.pddl_token.specs.declared.token.TokenKind.{TokenKind}
use Rattle.pddl_token.specs.declared.token.TokenKind.TheVariants.{Number}
use Rattle.pddl_token.specs.Spelling.{PlacedWord}
use Rattle.pddl_token.specs.Trees.{placed_leaf, erased}
use Rattle.pddl_token.specs.TreeWords.{SpellsName, SpellsNumber}
use Rattle.pddl_token.specs.Words.{IsSpelling, MayFollow}
use Rattle.pddl_scan.specs.Scanning.{LexedTo}

-- the byte is a word of this kind by itself, whatever follows
abbrev pub IsSign : TokenKind → ℕ → Type 0
IsSign kind b = (kind ≢ Number) × IsSpelling kind (b ∷ []) × ((after : List ℕ) → MayFollow kind (b ∷ []) after)

-- behind the words stands this name, up to whose end the text is read
abbrev pub ReadsName : List ℕ → List PlacedWord → ℕ → List ℕ → Type 0
ReadsName text words at name = (w : PlacedWord) × SpellsName name (erased (placed_leaf w)) × LexedTo text (words ++ w ∷ []) at

-- behind the words stands a number of this value, likewise
abbrev pub ReadsNumber : List ℕ → List PlacedWord → ℕ → ℕ → Type 0
ReadsNumber text words at number = (w : PlacedWord) × SpellsNumber number (erased (placed_leaf w)) × LexedTo text (words ++ w ∷ []) at

-- behind the words stands a word of this kind, likewise
abbrev pub ReadsSign : List ℕ → List PlacedWord → ℕ → TokenKind → Type 0
ReadsSign text words at kind = (w : PlacedWord) × (w.kind ≡ kind) × LexedTo text (words ++ w ∷ []) at
