-- Words among trees, letter case aside, and values that trees spell in turn.
use Rattle.std.specs.Prelude.{◌≡◌, ◌≢◌, ℕ, List, [], ◌∷◌, ◌++◌, Some, IsTrue, codes}
use Rattle.pddl_token.specs.declared.token.TokenKind.{TokenKind}
use Rattle.pddl_token.specs.declared.token.TokenKind.TheVariants.{Name, Variable, Keyword, Number, Dash, Equal}
use Rattle.pddl_token.specs.Number.{value_of}
use Rattle.pddl_token.specs.Trees.{Tree, leaf, node, trees_of}
use Rattle.pddl_token.specs.Names.{folded, is_name}

-- a list of these trees
abbrev pub list : List Tree → Tree
list ts = node (trees_of ts)

-- a word of a kind, which in lower case is this text
abbrev pub IsFolded : TokenKind → List ℕ → Tree → Type 0
IsFolded kind text (leaf w) = (w.kind ≡ kind) × (folded w.text ≡ text)
IsFolded kind text (node ts) = ⊥

-- a word of the grammar, such as `and`
abbrev pub IsWord : List ℕ → Tree → Type 0
IsWord word t = IsFolded Name word t

-- a keyword, its colon included
abbrev pub IsKeyword : List ℕ → Tree → Type 0
IsKeyword keyword t = IsFolded Keyword keyword t

-- a name (Kovacs, `<name>`)
abbrev pub SpellsName : List ℕ → Tree → Type 0
SpellsName name t = IsTrue (is_name name) × IsFolded Name name t

-- `?` and a name (Kovacs, `<variable>`)
abbrev pub SpellsVariable : List ℕ → Tree → Type 0
SpellsVariable name (leaf w) = IsTrue (is_name name) × (w.kind ≡ Variable) × ((text : List ℕ) × (w.text ≡ codes "?" ++ text) × (folded text ≡ name))
SpellsVariable name (node ts) = ⊥

-- a number, and its value in billionths
abbrev pub SpellsNumber : ℕ → Tree → Type 0
SpellsNumber value (leaf w) = (w.kind ≡ Number) × (value_of w.text ≡ Some value)
SpellsNumber value (node ts) = ⊥

-- `-`
abbrev pub IsDash : Tree → Type 0
IsDash (leaf w) = w.kind ≡ Dash
IsDash (node ts) = ⊥

-- `=`
abbrev pub IsEqualSign : Tree → Type 0
IsEqualSign (leaf w) = w.kind ≡ Equal
IsEqualSign (node ts) = ⊥

-- each value is spelled by the tree at its place, and there are no others
abbrev pub Each : {A : Type 0} → (A → Tree → Type 0) → List A → List Tree → Type 0
Each Spells [] [] = Unit {0}
Each Spells (x ∷ xs) (t ∷ ts) = Spells x t × Each Spells xs ts
Each Spells [] (t ∷ ts) = ⊥
Each Spells (x ∷ xs) [] = ⊥

-- none of these words
abbrev pub IsNoneOf : List (List ℕ) → List ℕ → Type 0
IsNoneOf [] name = Unit {0}
IsNoneOf (word ∷ words) name = (name ≢ word) × IsNoneOf words name
