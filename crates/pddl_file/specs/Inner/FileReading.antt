-- Reading a whole file, and what the code answers of it, for the readers above. What it means stands in Faults.
use Rattle.std.specs.Prelude.{◌≡◌}
use Rattle.pddl_scan.specs.declared.fault.TextFault.TheVariants.{Memory}
use Rattle.pddl_sections.specs.Sections.{SectionFault, faulty, unsupported, twice}
use Rattle.pddl_sections.specs.Files.{head, at_section, missing}
use Rattle.pddl_sections.specs.Inner.Verdicts.{Turn, stop, Verdict, bad}
use Rattle.pddl_sections.specs.Inner.Answers.{Answer, wrong}
use Rattle.pddl_file.specs.declared.keyword.SectionKeyword.{SectionKeyword}
use Rattle.pddl_file.specs.declared.mark.Mark.{Mark}
use Rattle.pddl_file.specs.declared.fault.FileFault.{FileFault}
use Rattle.pddl_file.specs.declared.fault.FileFault.TheVariants as faults

-- the fault is that of a section, or memory was refused
abbrev pub IsFaultAt : FileFault → SectionFault SectionKeyword Mark → Type 0
IsFaultAt (faults.Text t) fault = t ≡ Memory
IsFaultAt (faults.Section span near) fault = (fault ≡ faulty span) × (near ≡ span.start)
IsFaultAt (faults.Unsupported mark span) fault = fault ≡ unsupported mark span
IsFaultAt (faults.Twice key span) fault = fault ≡ twice key span
IsFaultAt (faults.Head span) fault = ⊥
IsFaultAt (faults.Missing key) fault = ⊥

-- the fault stops at a section, or memory was refused
abbrev pub StopsAt : {P : Type 0} → FileFault → Turn P SectionKeyword Mark → Type 0
StopsAt (faults.Text t) turn = t ≡ Memory
StopsAt (faults.Section span near) turn = (turn ≡ stop (faulty span)) × (near ≡ span.start)
StopsAt (faults.Unsupported mark span) turn = turn ≡ stop (unsupported mark span)
StopsAt (faults.Twice key span) turn = turn ≡ stop (twice key span)
StopsAt (faults.Head span) turn = ⊥
StopsAt (faults.Missing key) turn = ⊥

-- the fault is the first of some sections, or memory was refused
abbrev pub RefusesSections : {P S : Type 0} → FileFault → Verdict P SectionKeyword Mark S → Type 0
RefusesSections (faults.Text t) verdict = t ≡ Memory
RefusesSections (faults.Section span near) verdict = (verdict ≡ bad (faulty span)) × (near ≡ span.start)
RefusesSections (faults.Unsupported mark span) verdict = verdict ≡ bad (unsupported mark span)
RefusesSections (faults.Twice key span) verdict = verdict ≡ bad (twice key span)
RefusesSections (faults.Head span) verdict = ⊥
RefusesSections (faults.Missing key) verdict = ⊥

-- the fault is the first of a file's items, or memory was refused
abbrev pub RefusesFile : {P : Type 0} → FileFault → Answer P SectionKeyword Mark → Type 0
RefusesFile (faults.Text t) answer = t ≡ Memory
RefusesFile (faults.Head span) answer = answer ≡ wrong (head span)
RefusesFile (faults.Section span near) answer = (answer ≡ wrong (at_section (faulty span))) × (near ≡ span.start)
RefusesFile (faults.Unsupported mark span) answer = answer ≡ wrong (at_section (unsupported mark span))
RefusesFile (faults.Twice key span) answer = answer ≡ wrong (at_section (twice key span))
RefusesFile (faults.Missing key) answer = answer ≡ wrong (missing key)
