-- What is wanted of an accepted plan, as the program says it. No public contract names these.
use Rattle.std.specs.Int.NonZero.{non_zero_u32_get}
use Rattle.pddl_plan_commands.specs.declared.wanted.Wanted.{Wanted}
use Rattle.pddl_plan_commands.specs.declared.wanted.Wanted.TheVariants.{Verdict, Serial, Groups}
use Rattle.pddl_plan_commands.specs.Printings.{Printing, IsVerdictLine, IsSerialText, IsSplitText}

-- what is then printed
abbrev pub printing_of : Wanted → Printing
printing_of Verdict = IsVerdictLine
printing_of (Serial order) = IsSerialText order
printing_of (Groups order size) = IsSplitText order (non_zero_u32_get size)
