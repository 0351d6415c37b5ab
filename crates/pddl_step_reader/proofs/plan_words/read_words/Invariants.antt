use Rattle.std.proofs.Common.{◌≤◌, ◌-◌, List, length, take}
use Rattle.std.specs.Prelude.{IfSome}
use Rattle.pddl_token.specs.Spelling.{PlacedWord}
use Rattle.pddl_step_reader.specs.Inner.StepWords.{ReadsTo, ReadsWords}
use Rattle.pddl_step_reader.proofs.plan_words.read_words.Given as goal

abbrev pub invariant-loop-number : goal.invariant-loop-number
invariant-loop-number g l = record {
  in_range : l.number ≤ length l.words;
  ended : IfSome l.reach.ended (λ ended. ended ≤ l.number);
  reads : (done kept : List PlacedWord) → ReadsTo l.fn.place l.fn.plan done kept → ReadsWords l.reach.ended l.reach.place l.plan done kept (take l.number l.words);
}

abbrev pub decreases-loop-number : goal.decreases-loop-number
decreases-loop-number g l = length l.words - l.number
