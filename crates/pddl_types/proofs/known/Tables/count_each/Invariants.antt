use Rattle.std.proofs.Common.{◌≡◌, ◌≤◌, take}
use Rattle.pddl_task.specs.Types.{pairs}
use Rattle.pddl_task.specs.GroundSize.{fitting_count}
use Rattle.pddl_types.specs.Known.{objects_in}
use Rattle.pddl_types.proofs.known.Tables.count_each.Given as goal

-- the objects so far that fit are counted
abbrev pub invariant-loop-number : goal.invariant-loop-number
invariant-loop-number g l = record {
  few : l.count ≤ l.number;
  many : l.count ≡ fitting_count (pairs l.self.known.types.declared) (take l.number (objects_in l.self.known)) l.slot;
}
