use Rattle.std.proofs.Common.{◌≡◌, ◌≤◌, ◌-◌, ◌++◌, length, drop}
use Rattle.pddl_scan.proofs.word_list.WordList.push_from.Given as goal

abbrev pub invariant-loop-number : goal.invariant-loop-number
invariant-loop-number g l = record { in_range : l.number ≤ length l.words; so_far : l.self ++ drop l.number l.words ≡ l.fn.self ++ drop l.from l.words }

abbrev pub decreases-loop-number : goal.decreases-loop-number
decreases-loop-number g l = length l.words - l.number
