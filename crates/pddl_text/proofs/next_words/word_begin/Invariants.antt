use Rattle.std.proofs.Common.{List, length, ◌-◌, ◌≤◌}
use Rattle.pddl_token.specs.Spelling.{PlacedWord}
use Rattle.pddl_scan.specs.Scanning.{LexedTo}
use Rattle.pddl_text.proofs.next_words.word_begin.Given as goal

abbrev pub invariant-loop-at : goal.invariant-loop-at
invariant-loop-at l = record { lexed : (words : List PlacedWord) → LexedTo l.text words l.from → LexedTo l.text words l.at; further : l.from ≤ l.at }

abbrev pub decreases-loop-at : goal.decreases-loop-at
decreases-loop-at l = length l.text - l.at
