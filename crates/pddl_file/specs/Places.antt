-- Where the faults of a domain's or a problem's file stand. Own.
use Rattle.std.specs.Prelude.{ℕ, Option, Some, None}
use Rattle.pddl_scan.specs.Places.{text_place}
use Rattle.pddl_file.specs.declared.fault.FileFault.{FileFault}
use Rattle.pddl_file.specs.declared.fault.FileFault.TheVariants.{Text, Head, Section, Unsupported, Twice, Missing}

-- the place of a fault: its own, or where its span starts
abbrev pub file_place : FileFault → Option ℕ
file_place (Text fault) = text_place fault
file_place (Head span) = Some span.start
file_place (Section span near) = Some span.start
file_place (Unsupported word span) = Some span.start
file_place (Twice keyword span) = Some span.start
file_place (Missing keyword) = None
