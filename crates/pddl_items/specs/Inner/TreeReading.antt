-- Words read from trees, for the readers above. What they mean stands in Words.
use Rattle.std.specs.Prelude.{ℕ, List, [], ◌∷◌, ◌==◌, Bool, true, false, Option, Some, None, if◌then◌else◌}
use Rattle.std.specs.Str.{bytes_eq}
use Rattle.pddl_token.specs.declared.token.TokenKind.{TokenKind}
use Rattle.pddl_token.specs.declared.token.TokenKind.TheVariants.{Name, Variable, Keyword, Number, Dash}
use Rattle.pddl_token.specs.Trees.{Tree, leaf, node, Placed, PlacedList, no_placed, placed_tree}
use Rattle.pddl_token.specs.Names.{folded, name_of}
use Rattle.pddl_token.specs.Number.{value_of}

-- the name that a word of a kind is
abbrev pub name_by : TokenKind → List ℕ → Option (List ℕ)
name_by Name text = name_of text
name_by _ text = None

-- the name that a tree is
abbrev pub name_at : Tree → Option (List ℕ)
name_at (leaf w) = name_by w.kind w.text
name_at (node ts) = None

-- the name behind `?`
abbrev pub variable_name : List ℕ → Option (List ℕ)
variable_name [] = None
variable_name (b ∷ text) = if b == 63 then name_of text else None

abbrev pub variable_by : TokenKind → List ℕ → Option (List ℕ)
variable_by Variable text = variable_name text
variable_by _ text = None

-- the variable that a tree is
abbrev pub variable_at : Tree → Option (List ℕ)
variable_at (leaf w) = variable_by w.kind w.text
variable_at (node ts) = None

abbrev pub word_by : TokenKind → List ℕ → List ℕ → Bool
word_by Name text word = bytes_eq (folded text) word
word_by _ text word = false

-- whether a tree is this word
abbrev pub is_word_at : List ℕ → Tree → Bool
is_word_at word (leaf w) = word_by w.kind w.text word
is_word_at word (node ts) = false

abbrev pub keyword_by : TokenKind → List ℕ → List ℕ → Bool
keyword_by Keyword text word = bytes_eq (folded text) word
keyword_by _ text word = false

-- whether a tree is this keyword
abbrev pub is_keyword_at : List ℕ → Tree → Bool
is_keyword_at keyword (leaf w) = keyword_by w.kind w.text keyword
is_keyword_at keyword (node ts) = false

abbrev pub dash_by : TokenKind → Bool
dash_by Dash = true
dash_by _ = false

-- whether a tree is a dash
abbrev pub is_dash : Tree → Bool
is_dash (leaf w) = dash_by w.kind
is_dash (node ts) = false

-- the number that a word of a kind is
abbrev pub moment_by : TokenKind → List ℕ → Option ℕ
moment_by Number text = value_of text
moment_by _ text = None

-- the items of a list
abbrev pub placed_items : PlacedList → List Placed
placed_items no_placed = []
placed_items (placed_tree item items) = item ∷ placed_items items

-- a value, before others
abbrev pub both : {A : Type 0} → Option A → Option (List A) → Option (List A)
both None xs = None
both (Some x) None = None
both (Some x) (Some xs) = Some (x ∷ xs)

-- all the values, if there is none missing
abbrev pub all_of : {A : Type 0} → List (Option A) → Option (List A)
all_of [] = Some []
all_of (o ∷ os) = both o (all_of os)
