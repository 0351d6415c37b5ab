use Rattle.std.proofs.Common.{◌≡◌, ◌≤◌, ℕ, List, length, ◌-◌}
use Rattle.std.specs.Io.KnownBytes.{Consumes}
use Rattle.pddl_file_lines.specs.Contents.{IsPlanFile}
use Rattle.pddl_file_lines.proofs.plan_file.feed_all.Given as goal

abbrev pub invariant-loop-count : goal.invariant-loop-count
invariant-loop-count g l = record {
  text : List ℕ;
  come : IsPlanFile l.file text;
  given : Consumes (g.S.Source.remaining l.initial.source) (g.S.Source.remaining l.source) text;
  none_failed : g.S.Source.failures l.source ≡ g.S.Source.failures l.initial.source;
  fed_is : length text ≡ l.fed;
  within : l.fed ≤ 16777216;
}

abbrev pub decreases-loop-count : goal.decreases-loop-count
decreases-loop-count g l = 16777216 - l.fed
