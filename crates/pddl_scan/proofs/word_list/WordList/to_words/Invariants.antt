use Rattle.std.proofs.Common.{◌≡◌, ◌≤◌, ◌-◌, ◌++◌, length, drop, map}
use Rattle.pddl_scan.specs.InPieces.{word_view}
use Rattle.pddl_scan.proofs.word_list.WordList.to_words.Given as goal

abbrev pub invariant-loop-number : goal.invariant-loop-number
invariant-loop-number g l = record { in_range : l.number ≤ length l.self; so_far : map word_view l.words.items ++ drop l.number l.self ≡ l.self }

abbrev pub decreases-loop-number : goal.decreases-loop-number
decreases-loop-number g l = length l.self - l.number
