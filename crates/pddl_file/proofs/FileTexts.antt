-- A text is one file of a kind or has one fault, and reading answers it.
use Rattle.std.proofs.Common.{◌≡◌, ℕ, List, refl, sym, ap, ◌∙◌, subst, inl, inr}
use Rattle.std.specs.Prelude.{◌≢◌, ◌⊎◌}
use Rattle.pddl_scan.specs.declared.fault.TextFault.{TextFault}
use Rattle.pddl_scan.specs.declared.fault.TextFault.TheVariants.{Memory}
use Rattle.pddl_token.specs.Trees.{Placed}
use Rattle.pddl_text.specs.Texts.{HasItems, TextStands}
use Rattle.pddl_text.proofs.TextItems.{one_items}
use Rattle.pddl_text.proofs.TextFaults.{one_text_fault, no_fault_in_items}
use Rattle.pddl_sections.specs.Sections.{Rules, AllOf, faulty, unsupported, twice}
use Rattle.pddl_sections.specs.Files.{FileFault as WhatFault, head, at_section, missing, IsFile, HasFault}
use Rattle.pddl_sections.specs.Inner.Verdicts.{Readers}
use Rattle.pddl_sections.specs.Inner.Answers.{Answer, right, wrong, file_answer}
use Rattle.pddl_sections.proofs.SectionLaws.{Lawful}
use Rattle.pddl_sections.proofs.FileLaws.{SaysFile, file_says, file_answered, fault_of_file}
use Rattle.pddl_file.specs.declared.keyword.SectionKeyword.{SectionKeyword}
use Rattle.pddl_file.specs.declared.mark.Mark.{Mark}
use Rattle.pddl_file.specs.declared.fault.FileFault.{FileFault}
use Rattle.pddl_file.specs.declared.fault.FileFault.TheVariants as faults
use Rattle.pddl_file.specs.Faults.{HasFileFault, FileStands}
use Rattle.pddl_file.specs.Inner.FileReading.{RefusesFile}

-- the fault that says what is wrong with items
abbrev fault_of : WhatFault SectionKeyword Mark → FileFault
fault_of (head span) = faults.Head span
fault_of (at_section (faulty span)) = faults.Section span span.start
fault_of (at_section (unsupported mark span)) = faults.Unsupported mark span
fault_of (at_section (twice key span)) = faults.Twice key span
fault_of (missing key) = faults.Missing key

-- the fault that an answer is
abbrev fault_in : {P : Type 0} → Answer P SectionKeyword Mark → FileFault
fault_in (right name parts) = faults.Text Memory
fault_in (wrong what) = fault_of what

module _ {P S : Type 0} (rules : Rules P SectionKeyword Mark) (readers : Readers P SectionKeyword Mark S) (law : Lawful rules readers)
    (word : List ℕ) (required : List SectionKeyword) (once : AllOf rules.IsSingle required) where
  abbrev Answered : List Placed → Answer P SectionKeyword Mark
  Answered items = file_answer readers word required items

  -- the items have the fault that is answered
  has_fault : (items : List Placed) (fault : WhatFault SectionKeyword Mark) → Answered items ≡ wrong fault → HasFault rules word required items fault
  has_fault items fault e = subst (SaysFile rules readers law word required once items) e (file_says rules readers law word required once items)

  -- the items are the file that is answered
  pub is_file : (items : List Placed) (name : List ℕ) (parts : List P) → Answered items ≡ right name parts → IsFile rules word required name parts items
  is_file items name parts e = subst (SaysFile rules readers law word required once items) e (file_says rules readers law word required once items)

  -- A fault that the code answers stands in the text.
  pub refused_stands : (fault : FileFault) (text : List ℕ) (items : List Placed) → HasItems text items → RefusesFile fault (Answered items) → FileStands rules word required fault text
  refused_stands (faults.Text t) text items has e = subst (λ u. TextStands u text) (sym e) tt
  refused_stands (faults.Head span) text items has e = record { items = items; has = has; stands = has_fault items (head span) e }
  refused_stands (faults.Section span near) text items has (e, at) = (record { items = items; has = has; stands = has_fault items (at_section (faulty span)) e }, at)
  refused_stands (faults.Unsupported mark span) text items has e = record { items = items; has = has; stands = has_fault items (at_section (unsupported mark span)) e }
  refused_stands (faults.Twice key span) text items has e = record { items = items; has = has; stands = has_fault items (at_section (twice key span)) e }
  refused_stands (faults.Missing key) text items has e = record { items = items; has = has; stands = has_fault items (missing key) e }

  -- ---- one fault

  -- a fault of the text, or one that is answered for its items
  abbrev IsFaultOf : FileFault → List ℕ → Type 0
  IsFaultOf fault text = ((t : TextFault) × (fault ≡ faults.Text t) × TextStands t text) ⊎ ((items : List Placed) × HasItems text items × (fault ≡ fault_in (Answered items)))

  items_fault : (text : List ℕ) (fault : FileFault) (what : WhatFault SectionKeyword Mark) → HasFileFault rules word required what text → fault ≡ fault_of what → IsFaultOf fault text
  items_fault text fault what has is =
      inr (has.items, has.has, is ∙ ap fault_in (sym (fault_of_file rules readers law word required once has.items what has.stands)))

  fault_is : (fault : FileFault) (text : List ℕ) → FileStands rules word required fault text → IsFaultOf fault text
  fault_is (faults.Text t) text stands = inl (t, refl, stands)
  fault_is (faults.Head span) text stands = items_fault text (faults.Head span) (head span) stands refl
  fault_is (faults.Section span near) text (stands, at) = items_fault text (faults.Section span near) (at_section (faulty span)) stands (ap (λ n. faults.Section span n) at)
  fault_is (faults.Unsupported mark span) text stands = items_fault text (faults.Unsupported mark span) (at_section (unsupported mark span)) stands refl
  fault_is (faults.Twice key span) text stands = items_fault text (faults.Twice key span) (at_section (twice key span)) stands refl
  fault_is (faults.Missing key) text stands = items_fault text (faults.Missing key) (missing key) stands refl

  -- a text with items has no fault of its own but want of memory
  no_text_fault : (fault : FileFault) (text : List ℕ) (items : List Placed) (t : TextFault) → fault ≡ faults.Text t → TextStands t text → HasItems text items → fault ≡ faults.Text Memory
  no_text_fault fault text items t is stands has = is ∙ ap (λ u. faults.Text u) (no_fault_in_items text t items stands has)

  -- A text has at most one fault, neither of two being want of memory.
  pub one_fault : (text : List ℕ) (fault other : FileFault) → FileStands rules word required fault text → FileStands rules word required other text
      → fault ≢ faults.Text Memory → other ≢ faults.Text Memory → fault ≡ other
  one_fault text fault other p q no_memory no_other = by_kinds (fault_is fault text p) (fault_is other text q)
    where
      by_kinds : IsFaultOf fault text → IsFaultOf other text → fault ≡ other
      by_kinds (inl (t, is, stands)) (inl (u, are, stand)) =
          is ∙ (ap (λ v. faults.Text v) (one_text_fault text t u stands stand (λ e. no_memory (is ∙ ap (λ v. faults.Text v) e)) (λ e. no_other (are ∙ ap (λ v. faults.Text v) e))) ∙ sym are)
      by_kinds (inl (t, is, stands)) (inr (items, has, read)) = absurd (no_memory (no_text_fault fault text items t is stands has))
      by_kinds (inr (items, has, read)) (inl (u, are, stand)) = absurd (no_other (no_text_fault other text items u are stand has))
      by_kinds (inr (items, has, read)) (inr (others, have, reads)) =
          read ∙ (ap (λ xs. fault_in (Answered xs)) (one_items text items others has have) ∙ sym reads)

  -- A text whose items are a file of this kind has no fault.
  pub no_fault : (text : List ℕ) (fault : FileFault) (items : List Placed) (name : List ℕ) (parts : List P) → FileStands rules word required fault text → HasItems text items
      → IsFile rules word required name parts items → fault ≡ faults.Text Memory
  no_fault text fault items name parts p has file = by_kind (fault_is fault text p)
    where
      by_kind : IsFaultOf fault text → fault ≡ faults.Text Memory
      by_kind (inl (t, is, stands)) = no_text_fault fault text items t is stands has
      by_kind (inr (others, have, read)) =
          read ∙ (ap (λ xs. fault_in (Answered xs)) (one_items text others items have has) ∙ ap fault_in (file_answered rules readers law word required once items name parts file))

  -- What the code refuses is no file of this kind, where memory was not refused.
  pub refused_only : (fault : FileFault) (items : List Placed) (name : List ℕ) (parts : List P) → IsFile rules word required name parts items
      → RefusesFile fault (Answered items) → fault ≡ faults.Text Memory
  refused_only fault items name parts file e = by_fault fault e
    where
      is : Answered items ≡ right name parts
      is = file_answered rules readers law word required once items name parts file

      by_fault : (other : FileFault) → RefusesFile other (Answered items) → other ≡ faults.Text Memory
      by_fault (faults.Text t) e = ap (λ u. faults.Text u) e
      by_fault (faults.Head span) e = let bad : right name parts ≡ wrong (head span) = sym is ∙ e in absurd (cc)
      by_fault (faults.Section span near) (e, at) = let bad : right name parts ≡ wrong (at_section (faulty span)) = sym is ∙ e in absurd (cc)
      by_fault (faults.Unsupported mark span) e = let bad : right name parts ≡ wrong (at_section (unsupported mark span)) = sym is ∙ e in absurd (cc)
      by_fault (faults.Twice key span) e = let bad : right name parts ≡ wrong (at_section (twice key span)) = sym is ∙ e in absurd (cc)
      by_fault (faults.Missing key) e = let bad : right name parts ≡ wrong (missing key) = sym is ∙ e in absurd (cc)
