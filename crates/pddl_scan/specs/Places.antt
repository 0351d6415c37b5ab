-- Where the faults of a text stand. Own.
use Rattle.std.specs.Prelude.{ℕ, Option, Some, None}
use Rattle.pddl_scan.specs.declared.fault.TextFault.{TextFault}
use Rattle.pddl_scan.specs.declared.fault.TextFault.TheVariants.{Memory, TooLong, Stray, Glued, NumberRange, Unopened, TooDeep, Unclosed, AlreadyFailed}

-- the place of a fault, where it has one
abbrev pub text_place : TextFault → Option ℕ
text_place Memory = None
text_place TooLong = None
text_place (Stray at) = Some at
text_place (Glued at) = Some at
text_place (NumberRange at) = Some at
text_place (Unopened at) = Some at
text_place (TooDeep at) = Some at
text_place (Unclosed at) = Some at
text_place AlreadyFailed = None
