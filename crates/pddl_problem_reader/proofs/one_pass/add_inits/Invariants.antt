use Rattle.std.proofs.Common.{◌≤◌, ◌-◌, List, map, length}
use Rattle.pddl_token.specs.Spelling.{PlacedWord}
use Rattle.pddl_scan.specs.Scanning.{LexedTo}
use Rattle.pddl_problem.specs.Inits.{init_view}
use Rattle.pddl_problem_reader.specs.Inner.OnePass.{ReadsSome}
use Rattle.pddl_problem_reader.proofs.one_pass.add_inits.Given as goal

-- the items so far
abbrev pub invariant-loop-names : goal.invariant-loop-names
invariant-loop-names g l = record {
  read : (words : List PlacedWord) → LexedTo l.text words l.initial.at → ReadsSome l.text words l.at (map init_view l.inits.items);
  further : l.initial.at ≤ l.at;
}

abbrev pub decreases-loop-names : goal.decreases-loop-names
decreases-loop-names g l = length l.text - l.at
