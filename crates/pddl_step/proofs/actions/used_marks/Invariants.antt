use Rattle.std.proofs.Common.{◌≡◌, ◌<◌, ℕ, true, length}
use Rattle.std.specs.Prelude.{Some, slice_get}
use Rattle.pddl_linked_plan.specs.LinkedSteps.{LinkedStepValue}
use Rattle.pddl_step.proofs.actions.used_marks.Given as goal

-- the actions of the steps so far are marked
abbrev pub invariant-loop-k : goal.invariant-loop-k
invariant-loop-k g l = record {
  as_many : length l.marks.items ≡ l.count;
  marked : (m : ℕ) (s : LinkedStepValue) → m < l.k → slice_get l.steps m ≡ Some s → slice_get l.marks.items s.action ≡ Some true;
}
