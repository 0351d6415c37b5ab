use Rattle.std.proofs.Common.{◌≡◌, ◌+◌, length, take, drop}
use Rattle.std.specs.List.{prefix_len}
use Rattle.pddl_token.specs.Bytes.{is_word_byte}
use Rattle.pddl_token.specs.Names.{folded}
use Rattle.pddl_token.proofs.name.folded_front.Given as goal

abbrev pub invariant-loop-i : goal.invariant-loop-i
invariant-loop-i l = record { letters : take l.i l.bytes ≡ folded (take l.i l.text); room : length l.bytes ≡ 22; len : prefix_len is_word_byte l.text ≡ l.i + prefix_len is_word_byte (drop l.i l.text) }
