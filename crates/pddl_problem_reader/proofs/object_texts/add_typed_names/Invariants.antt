use Rattle.std.proofs.Common.{List, length, ◌-◌, ◌≤◌, map}
use Rattle.pddl_token.specs.Spelling.{PlacedWord}
use Rattle.pddl_scan.specs.Scanning.{LexedTo}
use Rattle.pddl_formula.specs.TypedLists.{typed_view}
use Rattle.pddl_problem_reader.specs.Inner.ObjectTexts.{ReadsGroups}
use Rattle.pddl_problem_reader.proofs.object_texts.add_typed_names.Given as goal

-- the groups so far
abbrev pub invariant-loop-group : goal.invariant-loop-group
invariant-loop-group g l = record {
  read : (words : List PlacedWord) → LexedTo l.text words l.initial.at → ReadsGroups l.text words l.at (map typed_view l.found.items);
  further : l.initial.at ≤ l.at;
}

abbrev pub decreases-loop-group : goal.decreases-loop-group
decreases-loop-group g l = length l.text - l.at
