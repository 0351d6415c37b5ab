-- Faults as the program looks at them. No public contract names these.
use Rattle.std.specs.Prelude.{◌≡◌, ℕ, List, [], ◌++◌, codes, Bool, true, false, Option, Some, None}
use Rattle.std.specs.Fmt.{decimal}
use Rattle.pddl_text.specs.declared.place.Pos.{Pos}
use Rattle.pddl_scan.specs.declared.fault.TextFault.TheVariants.{Memory}
use Rattle.pddl_step_reader.specs.declared.fault.ReadFault.{ReadFault}
use Rattle.pddl_step_reader.specs.declared.fault.ReadFault.TheVariants as plans
use Rattle.pddl_file.specs.declared.fault.FileFault.{FileFault}
use Rattle.pddl_file.specs.declared.fault.FileFault.TheVariants as files
use Rattle.pddl_task.specs.Names.{Name}
use Rattle.pddl_faults.specs.declared.fault.LinkFault.{LinkFault}
use Rattle.pddl_faults.specs.Passes.{fault_of}
use Rattle.pddl_file_lines.specs.declared.fault_names.FaultName.{FaultName}
use Rattle.pddl_file_lines.specs.Lines.{link_fault_text, IsFaultLine}

-- the whole name
abbrev pub whole_name : FaultName → List ℕ
whole_name name = name.numbered.now ++ name.about.now

-- what is shown of a position
abbrev pub shown_position : Option Pos → List ℕ
shown_position None = []
shown_position (Some pos) = codes " at " ++ (decimal pos.line ++ (codes ":" ++ decimal pos.col))

-- the fault is want of memory
abbrev pub is_memory : ReadFault → Bool
is_memory (plans.Text Memory) = true
is_memory _ = false

abbrev pub is_file_memory : FileFault → Bool
is_file_memory (files.Text Memory) = true
is_file_memory _ = false

-- the fault is one of linking, and this is its line
abbrev pub IsLinkFaultLine : LinkFault → List ℕ → Type 0
IsLinkFaultLine fault line = (f : ℕ × Name) × (fault_of fault ≡ Some f) × IsFaultLine (codes "link") [] (link_fault_text f.0 f.1) None line
