use Rattle.std.proofs.Common.{◌≡◌, ℕ, ◌+◌, ◌*◌, ◌≤◌, drop}
use Rattle.pddl_happenings.specs.Accepted.{after_all, cost_of_all}
use Rattle.pddl_happenings.specs.Happenings.{singles}
use Rattle.pddl_happenings.specs.Serialisations.{FailsAt, RunsSerially}
use Rattle.pddl_serial.proofs.serial_run.run_serially.Given as goal

-- what is left, from the state so far, runs, ends, costs and fails as the whole
abbrev pub invariant-loop-i : goal.invariant-loop-i
invariant-loop-i g l =
    let p = g.P.Course.steps_of l.course in
    let start = g.S.AtomStore.content l.fn.store l.fn.state in
    let here = g.S.AtomStore.content l.store l.state in
    record {
      own : g.S.AtomStore.owns l.store l.state;
      runs : RunsSerially p here (drop l.i l.order) → RunsSerially p start l.order;
      ends : after_all p here (singles (drop l.i l.order)) ≡ after_all p start (singles l.order);
      costs : l.cost + cost_of_all p here (singles (drop l.i l.order)) ≡ cost_of_all p start (singles l.order);
      room : l.cost ≤ l.i * 18446744073709551616000000;
      fails : (k : ℕ) → FailsAt p here (drop l.i l.order) k → FailsAt p start l.order (l.i + k);
    }
