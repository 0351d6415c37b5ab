-- A whole file, `(define (WORD NAME) section*)`: what spells one, and its first fault. Kovacs, BNF definition of PDDL 3.1,
-- `<domain>` and `<problem>`, where WORD is `domain` or `problem`; that a file is one such list, and which fault comes first, is
-- own.
use Rattle.std.specs.Prelude.{◌≡◌, ℕ, List, [], ◌∷◌, ◌++◌, map, codes}
use Rattle.pddl_token.specs.declared.token.Span.{Span}
use Rattle.pddl_token.specs.Trees.{Tree, Placed, placed_node, placed_of, erased}
use Rattle.pddl_token.specs.TreeWords.{list, IsWord, SpellsName}
use Rattle.pddl_items.specs.Items.{span_of}
use Rattle.pddl_sections.specs.Sections.{Rules, SectionFault, Fits, FirstFault, AnyOf, AllOf}

-- `(WORD NAME)`
abbrev pub IsTitle : List ℕ → List ℕ → Tree → Type 0
IsTitle word name t = (first second : Tree) × (t ≡ list (first ∷ second ∷ [])) × IsWord word first × SpellsName name second

-- `(define (WORD NAME) section*)`
pub record Opens (word name : List ℕ) (sections : List Placed) (p : Placed) : Type 0 where
  pub first : Placed
  pub title : Placed
  pub span : Span
  pub is_list : p ≡ placed_node span (placed_of (first ∷ title ∷ sections))
  pub is_define : IsWord (codes "define") (erased first)
  pub is_title : IsTitle word name (erased title)

-- a list that begins `define` and `(WORD NAME)`
abbrev pub Begins : List ℕ → Placed → Type 0
Begins word p = (name : List ℕ) × (sections : List Placed) × Opens word name sections p

-- the items are one list that begins so, with this name and these sections
pub record IsOpened (word name : List ℕ) (sections items : List Placed) : Type 0 where
  pub file : Placed
  pub only : items ≡ file ∷ []
  pub opens : Opens word name sections file

-- the place where the items are no single list that begins so
pub data HeadFault (word : List ℕ) : List Placed → Span → Type 0 where
  -- there is no item
  nothing : {items : List Placed} {span : Span} → items ≡ [] → span ≡ record { start = 0; end = 0 } → HeadFault word items span
  -- the first begins otherwise
  other : {items : List Placed} {span : Span} (first : Placed) (rest : List Placed) → items ≡ first ∷ rest
      → (Begins word first → ⊥) → span ≡ span_of first → HeadFault word items span
  -- the first begins so, and a second follows
  several : {items : List Placed} {span : Span} (first second : Placed) (rest : List Placed) → items ≡ first ∷ second ∷ rest
      → Begins word first → span ≡ span_of second → HeadFault word items span

-- what is wrong with a file
pub data FileFault (K W : Type 0) : Type 0 where
  -- it is no single list that begins as it should: the place
  head : Span → FileFault K W
  -- a section is wrong
  at_section : SectionFault K W → FileFault K W
  -- no section has a keyword that is required
  missing : K → FileFault K W

-- of a kind of file: its sections' rules, its word, and the keywords that are required
module _ {P K W : Type 0} (rules : Rules P K W) (word : List ℕ) (required : List K) where
  -- a section has the keyword
  abbrev pub StandsIn : List Placed → K → Type 0
  StandsIn sections k = AnyOf (rules.HasKey k) (map erased sections)

  -- the first keyword that is required and that no section has
  pub record FirstMissing (sections : List Placed) (k : K) : Type 0 where
    pub before : List K
    pub after : List K
    pub splits : required ≡ before ++ k ∷ after
    pub others : AllOf (StandsIn sections) before
    pub none : StandsIn sections k → ⊥

  -- the items are one file of this name, its sections spell these values, and none is missing
  pub record IsFile (name : List ℕ) (parts : List P) (items : List Placed) : Type 0 where
    pub sections : List Placed
    pub opened : IsOpened word name sections items
    pub fits : Fits rules parts (map erased sections)
    pub complete : AllOf (StandsIn sections) required

  -- the items are one list that begins as it should, and this is the first fault of its sections
  pub record HasSectionFault (items : List Placed) (fault : SectionFault K W) : Type 0 where
    pub name : List ℕ
    pub sections : List Placed
    pub opened : IsOpened word name sections items
    pub first : FirstFault rules sections fault

  -- the items are one list that begins as it should, its sections are right, and this keyword is the first that is missing
  pub record HasMissingFault (items : List Placed) (k : K) : Type 0 where
    pub name : List ℕ
    pub sections : List Placed
    pub parts : List P
    pub opened : IsOpened word name sections items
    pub fits : Fits rules parts (map erased sections)
    pub first : FirstMissing sections k

  -- the first fault of a file
  abbrev pub HasFault : List Placed → FileFault K W → Type 0
  HasFault items (head span) = HeadFault word items span
  HasFault items (at_section fault) = HasSectionFault items fault
  HasFault items (missing k) = HasMissingFault items k
