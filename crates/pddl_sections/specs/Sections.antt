-- Sections of a file: when they are right, and the first that is not. The rules of a kind of file are given: which keywords,
-- which values, which lists are refused by name. That a section's keyword says what it is, is Kovacs' (BNF definition of PDDL
-- 3.1); that sections may stand in any order, that most stand at most once, and which fault comes first, is own.
use Rattle.std.specs.Prelude.{◌≡◌, ◌⊎◌, List, [], ◌∷◌, ◌++◌, map}
use Rattle.pddl_token.specs.declared.token.Span.{Span}
use Rattle.pddl_token.specs.Trees.{Tree, Placed, placed_leaf, placed_node, PlacedList, no_placed, placed_tree, erased}
use Rattle.pddl_token.specs.TreeWords.{Each}
use Rattle.pddl_items.specs.Items.{span_of}

-- what holds, holds of one of these
abbrev pub AnyOf : {A : Type 0} → (A → Type 0) → List A → Type 0
AnyOf Holds [] = ⊥
AnyOf Holds (x ∷ xs) = Holds x ⊎ AnyOf Holds xs

-- it holds of each of these
abbrev pub AllOf : {A : Type 0} → (A → Type 0) → List A → Type 0
AllOf Holds [] = Unit {0}
AllOf Holds (x ∷ xs) = Holds x × AllOf Holds xs

-- what the sections of a kind of file are: P their values, K their keywords, W the words by which lists are refused
pub record Rules (P K W : Type 0) : Type 1 where
  -- the value of a section
  pub Spells : P → Tree → Type 0
  -- the keyword of a section, whether it spells a value or not
  pub HasKey : K → Tree → Type 0
  -- the keyword stands at most once
  pub IsSingle : K → Type 0
  -- in this section, the list is refused by this word
  pub Marked : Tree → W → Tree → Type 0

-- what is wrong at a section
pub data SectionFault (K W : Type 0) : Type 0 where
  -- it spells no value, and has no list that is refused by name: its span
  faulty : Span → SectionFault K W
  -- it spells no value, and has a list that is refused by name: the word, and the list's span
  unsupported : W → Span → SectionFault K W
  -- its keyword stood before: the keyword, and the section's span
  twice : K → Span → SectionFault K W

-- the lists in an item, itself included, in the order of their openings
abbrev mutual
  pub lists_in : Placed → List Placed
  lists_in (placed_leaf w) = []
  lists_in (placed_node span items) = placed_node span items ∷ lists_in_all items

  pub lists_in_all : PlacedList → List Placed
  lists_in_all no_placed = []
  lists_in_all (placed_tree item items) = lists_in item ++ lists_in_all items

module _ {P K W : Type 0} (rules : Rules P K W) where
  -- the section has the keyword of one of those before it, and that stands at most once
  abbrev pub Repeats : List Tree → Tree → Type 0
  Repeats before t = (k : K) × rules.IsSingle k × rules.HasKey k t × AnyOf (rules.HasKey k) before

  -- each section spells its value, and none repeats an earlier one
  pub record Fits (parts : List P) (sections : List Tree) : Type 0 where
    pub each : Each rules.Spells parts sections
    pub once : (before : List Tree) (t : Tree) (after : List Tree) → sections ≡ before ++ t ∷ after → Repeats before t → ⊥

  -- in this section, the list is refused by some word
  abbrev pub HasMark : Placed → Placed → Type 0
  HasMark section at = (word : W) × rules.Marked (erased section) word (erased at)

  -- of the lists in a section, in the order of their openings, the first that is refused by name: its word and its span
  pub record FirstMarked (section : Placed) (word : W) (span : Span) : Type 0 where
    pub before : List Placed
    pub at : Placed
    pub after : List Placed
    pub splits : lists_in section ≡ before ++ at ∷ after
    pub none_before : AnyOf (HasMark section) before → ⊥
    pub marked : rules.Marked (erased section) word (erased at)
    pub span_is : span ≡ span_of at

  -- the section repeats none of those before it, and spells no value
  abbrev pub IsUnfit : List Tree → Tree → Type 0
  IsUnfit before t = (Repeats before t → ⊥) × ((x : P) → rules.Spells x t → ⊥)

  -- what is wrong at a section behind others
  abbrev pub IsFault : List Tree → Placed → SectionFault K W → Type 0
  IsFault before p (twice k span) = rules.IsSingle k × rules.HasKey k (erased p) × AnyOf (rules.HasKey k) before × (span ≡ span_of p)
  IsFault before p (unsupported word span) = IsUnfit before (erased p) × FirstMarked p word span
  IsFault before p (faulty span) = IsUnfit before (erased p) × (AnyOf (HasMark p) (lists_in p) → ⊥) × (span ≡ span_of p)

  -- the first section in file order that spells no value or repeats an earlier one: all before it are right, and it is not
  pub record FirstFault (sections : List Placed) (fault : SectionFault K W) : Type 0 where
    pub before : List Placed
    pub section : Placed
    pub after : List Placed
    pub splits : sections ≡ before ++ section ∷ after
    pub parts : List P
    pub fits : Fits parts (map erased before)
    pub stands : IsFault (map erased before) section fault
