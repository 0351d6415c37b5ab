use Rattle.std.proofs.Common.{◌≡◌, ◌≤◌, ◌*◌, take}
use Rattle.pddl_happenings.specs.Accepted.{cost_of}
use Rattle.pddl_judge.proofs.stage.group_cost.Given as goal

abbrev pub invariant-loop-step : goal.invariant-loop-step
invariant-loop-step g l =
    record {
      value : l.total ≡ cost_of (g.P.Course.steps_of l.course) (g.S.AtomStore.content l.store l.state) (take l.step-index l.group);
      bound : l.total ≤ l.step-index * 18446744073709551616000000;
    }
