-- Where the faults of a plan file stand. Own.
use Rattle.std.specs.Prelude.{ℕ, Option, Some}
use Rattle.pddl_scan.specs.Places.{text_place}
use Rattle.pddl_step_reader.specs.declared.fault.ReadFault.{ReadFault}
use Rattle.pddl_step_reader.specs.declared.fault.ReadFault.TheVariants.{Text, Step, Mixed, Duration}

-- the place of a fault: its own, or where its span starts
abbrev pub fault_place : ReadFault → Option ℕ
fault_place (Text fault) = text_place fault
fault_place (Step span near) = Some span.start
fault_place (Mixed span) = Some span.start
fault_place (Duration span) = Some span.start
