-- What is wrong with a text that is no domain, or no problem. Own.
use Rattle.std.specs.Prelude.{◌≡◌, ℕ, List}
use Rattle.pddl_token.specs.Trees.{Placed}
use Rattle.pddl_text.specs.Texts.{HasItems, TextStands}
use Rattle.pddl_sections.specs.Sections.{Rules, faulty, unsupported, twice}
use Rattle.pddl_sections.specs.Files.{FileFault as WhatFault, head, at_section, missing, HasFault}
use Rattle.pddl_file.specs.declared.keyword.SectionKeyword.{SectionKeyword}
use Rattle.pddl_file.specs.declared.mark.Mark.{Mark}
use Rattle.pddl_file.specs.declared.fault.FileFault.{FileFault}
use Rattle.pddl_file.specs.declared.fault.FileFault.TheVariants as faults

module _ {P : Type 0} (rules : Rules P SectionKeyword Mark) (word : List ℕ) (required : List SectionKeyword) where
  -- the text has items, and this is their first fault
  pub record HasFileFault (fault : WhatFault SectionKeyword Mark) (text : List ℕ) : Type 0 where
    pub items : List Placed
    pub has : HasItems text items
    pub stands : HasFault rules word required items fault

  -- What each answer says of the text: a text without items has a fault of its tokens or lists; else the fault is the first of
  -- the items. `near` of a section is its first byte.
  abbrev pub FileStands : FileFault → List ℕ → Type 0
  FileStands (faults.Text fault) text = TextStands fault text
  FileStands (faults.Head span) text = HasFileFault (head span) text
  FileStands (faults.Section span near) text = HasFileFault (at_section (faulty span)) text × (near ≡ span.start)
  FileStands (faults.Unsupported mark span) text = HasFileFault (at_section (unsupported mark span)) text
  FileStands (faults.Twice key span) text = HasFileFault (at_section (twice key span)) text
  FileStands (faults.Missing key) text = HasFileFault (missing key) text
