-- A problem's text read in one pass. No public contract names these.
use Rattle.std.specs.Prelude.{◌≡◌, ℕ, List, [], ◌∷◌, ◌++◌, map, Option, Some, codes}
use Rattle.pddl_token.specs.declared.token.TokenKind.TheVariants.{Open, Close, Keyword}
use Rattle.pddl_token.specs.Names.{folded}
use Rattle.pddl_token.specs.Spelling.{PlacedWord}
use Rattle.pddl_token.specs.Trees.{Placed, erased}
use Rattle.pddl_scan.specs.Scanning.{LexedTo}
use Rattle.pddl_items.specs.Inner.TreeReading.{all_of}
use Rattle.pddl_text.specs.Lists.{AreItems}
use Rattle.pddl_text.specs.Texts.{HasItems}
use Rattle.pddl_sections.specs.Files.{IsOpened}
use Rattle.pddl_sections.specs.Inner.Verdicts.{turn, verdict}
use Rattle.pddl_file.specs.declared.keyword.SectionKeyword.{SectionKeyword}
use Rattle.pddl_file.specs.declared.keyword.Seen.{Seen}
use Rattle.pddl_file.specs.Inner.Begun.{ReadsTurn}
use Rattle.pddl_file.specs.Inner.WordReading.{nothing_seen}
use Rattle.pddl_problem.specs.Inits.{InitValue}
use Rattle.pddl_init_reader.specs.Inner.InitReading.{init_at}
use Rattle.pddl_problem_reader.specs.ProblemTexts.{Part}
use Rattle.pddl_problem_reader.specs.Inner.ProblemReading.{content_at, problem_readers}
use Rattle.pddl_problem_reader.specs.Inner.Slots.{SlotsValue, FillsPart, HoldVerdict}

-- behind words stands `(` and this keyword, up to whose end the text is read
pub record IsSectionBehind (name text : List ℕ) (words : List PlacedWord) (at : ℕ) : Type 0 where
  pub opening : PlacedWord
  pub keyword : PlacedWord
  pub is_open : opening.kind ≡ Open
  pub is_keyword : keyword.kind ≡ Keyword
  pub is_name : folded keyword.text ≡ name
  pub lexed : LexedTo text (words ++ opening ∷ keyword ∷ []) at

-- behind words stand these items of `:init`
pub record ReadsSome (text : List ℕ) (words : List PlacedWord) (at : ℕ) (inits : List InitValue) : Type 0 where
  pub more : List PlacedWord
  pub items : List Placed
  pub lexed : LexedTo text (words ++ more) at
  pub form : AreItems 126 more items
  pub reads : all_of (map (λ p. init_at (erased p)) items) ≡ Some inits

-- behind words, which end in `(` and this keyword, stand items that say this of its section, and then a closing
pub record ReadsPart (key : SectionKeyword) (part : Part) (text : List ℕ) (words : List PlacedWord) (at : ℕ) : Type 0 where
  pub more : List PlacedWord
  pub items : List Placed
  pub form : AreItems 126 more items
  pub says : content_at (Some key) (map erased items) ≡ Some part
  pub closing : PlacedWord
  pub is_close : closing.kind ≡ Close
  pub lexed : LexedTo text ((words ++ more) ++ closing ∷ []) at

-- a section that fills its slot behind the keywords seen, or the end, where nothing was filled, as it is answered
abbrev pub FillsTurn : List ℕ → List PlacedWord → ℕ → Seen → SlotsValue → SlotsValue → Option Seen → Type 0
FillsTurn text words at seen before after = ReadsTurn (λ p. FillsPart (turn problem_readers seen p) before after) (after ≡ before) text words at seen

-- the text has a file of this name, whose sections the slots hold
pub record HoldsFile (name text : List ℕ) (s : SlotsValue) : Type 0 where
  pub items : List Placed
  pub sections : List Placed
  pub has : HasItems text items
  pub opened : IsOpened (codes "problem") name sections items
  pub hold : HoldVerdict s (verdict problem_readers nothing_seen [] sections)
