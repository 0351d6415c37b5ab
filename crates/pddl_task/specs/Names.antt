-- Names in lists.
use Rattle.std.specs.Prelude.{◌≡◌, ℕ, Bool, true, not, cond, List, [], ◌∷◌, ◌++◌, filter, bytes_eq}
use Rattle.std.specs.List.{list_any, position_or_len}
use Rattle.std.specs.Cmp.Lexicographic.{pointwise}
use Rattle.pddl_formula.specs.TypedLists.{WithType, TypedValue}

-- a name: its bytes, in lower case
abbrev pub Name : Type 0
Name = List ℕ

-- the name is one of these
abbrev pub is_in : List Name → Name → Bool
is_in names n = list_any (bytes_eq n) names

-- the number of a name among names, from 0; as many as there are where it is none of them
abbrev pub number_in : List Name → Name → ℕ
number_in names n = position_or_len (bytes_eq n) names

-- the same names, in the same order
abbrev pub same_names : List Name → List Name → Bool
same_names = pointwise bytes_eq

-- the word alone where a test holds, else none
abbrev pub word_if : Bool → Name → List Name
word_if holds word = cond holds (word ∷ []) []

-- of items behind others, the word of each that is wrong behind those before it
abbrev pub wrong_words : {X : Type 0} → (List X → X → Bool) → (X → Name) → List X → List X → List Name
wrong_words wrong word before [] = []
wrong_words wrong word before (x ∷ xs) = word_if (wrong before x) (word x) ++ wrong_words wrong word (before ++ x ∷ []) xs

-- the word is that of an item which is wrong behind those before it in the list: `wrong_words`, as a relation
pub record IsWrongBehind {X : Type 0} (wrong : List X → X → Bool) (word : X → Name) (xs : List X) (w : Name) : Type 0 where
  pub before : List X
  pub here : X
  pub after : List X
  pub xs_are : xs ≡ before ++ here ∷ after
  pub is_wrong : wrong before here ≡ true
  pub word_is : word here ≡ w

-- of names behind others, each that stands before it too
abbrev pub repeated : List Name → List Name → List Name
repeated = wrong_words is_in (λ n. n)

-- what is typed
abbrev pub item_of : {X T : Type 0} → WithType X T → X
item_of x = x.item

-- the item has this name
abbrev pub is_named : Name → TypedValue → Bool
is_named n x = bytes_eq n x.item

-- each name at its first place, with its type there
abbrev pub firsts : List TypedValue → List TypedValue
firsts [] = []
firsts (x ∷ xs) = x ∷ filter (λ y. not (is_named x.item y)) (firsts xs)
