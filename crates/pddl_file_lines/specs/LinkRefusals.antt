-- Which files are refused for a fault of linking, with which line, and when two such lines are alike. Own.
use Rattle.std.specs.Prelude.{◌≡◌, ◌⊎◌, ℕ, List, [], codes, None}
use Rattle.pddl_task.specs.Names.{Name}
use Rattle.pddl_task.specs.Linked.{Fault, IsLowest}
use Rattle.pddl_file_lines.specs.Lines.{link_fault_text, IsFaultLine}

-- of these faults the lowest that stands, with the word of a place where it does, and its line is printed
pub record IsLinkRefused (fs : List Fault) (printed : List ℕ) : Type 0 where
  pub number : ℕ
  pub word : Name
  pub lowest : IsLowest fs number word
  pub line : IsFaultLine (codes "link") [] (link_fault_text number word) None printed

-- two lines that name one fault of linking, each with a word of that fault
pub record NameOneFault (printed other : List ℕ) : Type 0 where
  pub number : ℕ
  pub word : Name
  pub other_word : Name
  pub line : IsFaultLine (codes "link") [] (link_fault_text number word) None printed
  pub other_line : IsFaultLine (codes "link") [] (link_fault_text number other_word) None other

-- the same text, or the same fault of linking
abbrev pub AreAlike : List ℕ → List ℕ → Type 0
AreAlike printed other = (printed ≡ other) ⊎ NameOneFault printed other
