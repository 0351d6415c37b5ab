use Rattle.std.proofs.Common.{◌≡◌, length, take, true}
use Rattle.std.specs.List.{list_all}
use Rattle.pddl_token.specs.Names.{folded, is_later_byte}
use Rattle.pddl_token.proofs.name.folded.Given as goal

abbrev pub invariant-loop-i : goal.invariant-loop-i
invariant-loop-i l = record { letters : take l.i l.bytes ≡ folded (take l.i l.text); room : length l.bytes ≡ 22; later : list_all is_later_byte (folded (take l.i l.text)) ≡ true }
