use Rattle.std.proofs.Common.{◌≡◌, ◌≤◌, ◌-◌, ◌++◌, length, drop, map}
use Rattle.pddl_token.specs.Spelling.{view}
use Rattle.pddl_scan.proofs.word_list.WordList.tokens.Given as goal

abbrev pub invariant-loop-number : goal.invariant-loop-number
invariant-loop-number g l = record { in_range : l.number ≤ length l.self; so_far : map view l.tokens.items ++ drop l.number l.self ≡ l.self }

abbrev pub decreases-loop-number : goal.decreases-loop-number
decreases-loop-number g l = length l.self - l.number
