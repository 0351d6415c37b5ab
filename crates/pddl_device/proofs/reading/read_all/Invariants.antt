use Rattle.std.proofs.Common.{◌≡◌, ◌≤◌, vec_len, ◌-◌}
use Rattle.std.specs.Io.KnownBytes.{Consumes}
use Rattle.pddl_device.proofs.reading.read_all.Given as goal

abbrev pub invariant-loop-count : goal.invariant-loop-count
invariant-loop-count g l = record {
  within : vec_len l.text ≤ l.limit;
  given : Consumes (g.S.Source.remaining l.initial.reader) (g.S.Source.remaining l.reader) l.text.items;
  none_failed : g.S.Source.failures l.reader ≡ g.S.Source.failures l.initial.reader;
}

abbrev pub decreases-loop-count : goal.decreases-loop-count
decreases-loop-count g l = l.limit - vec_len l.text
