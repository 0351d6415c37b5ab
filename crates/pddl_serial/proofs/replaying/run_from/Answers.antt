use Rattle.std.proofs.Common.{◌∙◌}
use Rattle.pddl_serial.proofs.replaying.run_from.Goals as goal

pub run_serially-requires : goal.run_serially-requires
run_serially-requires g c = record {
  steps = c.requires.steps;
  few = c.requires.few;
  own = c.requires.own;
}

pub returns-in-Err : goal.returns-in-Err
returns-in-Err g c = record {
  serial = tt;
  fails = rw c.in-Err.is at c.in_ok-place.ensures.fails;
  runs = tt;
  rising = tt;
  atoms = tt;
  cost = tt;
}

pub returns-in_ok-atoms-in-Ok : goal.returns-in_ok-atoms-in-Ok
returns-in_ok-atoms-in-Ok g c = record {
  serial = tt;
  fails = tt;
  runs = rw c.in-Ok.is at c.in_ok-place.ensures.runs;
  rising = c.in_ok-atoms-in-Ok.ensures.rising;
  atoms = c.in_ok-atoms-in-Ok.ensures.content ∙ (rw c.in-Ok.is at c.in_ok-place.ensures.end);
  cost = rw c.in-Ok.is at c.in_ok-place.ensures.cost;
}
