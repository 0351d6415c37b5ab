use Rattle.std.proofs.Common.{List, length, ◌-◌, ◌≤◌}
use Rattle.pddl_token.specs.Spelling.{PlacedWord}
use Rattle.pddl_scan.specs.Scanning.{LexedTo}
use Rattle.pddl_problem_reader.specs.Inner.InitTexts.{ReadsNames}
use Rattle.pddl_problem_reader.proofs.init_texts.add_names.Given as goal

-- the names so far
abbrev pub invariant-loop-name : goal.invariant-loop-name
invariant-loop-name g l = record {
  read : (words : List PlacedWord) → LexedTo l.text words l.initial.at → ReadsNames l.text words l.at l.names.items;
  further : l.initial.at ≤ l.at;
}

abbrev pub decreases-loop-name : goal.decreases-loop-name
decreases-loop-name g l = length l.text - l.at
