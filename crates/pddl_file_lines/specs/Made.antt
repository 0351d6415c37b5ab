-- What a command made, or why it has not. Own.
use Rattle.std.specs.Prelude.{Result, Ok, Err}
use Rattle.pddl_file_lines.specs.declared.outcome.RunFault.{RunFault}
use Rattle.pddl_file_lines.specs.declared.outcome.RunFault.TheVariants.{Memory}

-- what was made, and the fault where memory for it was refused
abbrev pub or_memory : {T E : Type 0} → Result T E → Result T RunFault
or_memory (Ok made) = Ok made
or_memory (Err refused) = Err Memory
