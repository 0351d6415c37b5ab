use Rattle.std.proofs.Common.{ℕ, take}
use Rattle.std.specs.Ordering.{nat_cmp}
use Rattle.std.specs.BTreeMap.{IsOrdered, get}
use Rattle.pddl_judge.specs.Moments.{IsGroupAt}
use Rattle.pddl_judge.proofs.plan_happenings.steps_by_moment.Given as goal

-- of the steps so far
abbrev pub invariant-loop-step : goal.invariant-loop-step
invariant-loop-step g l = record {
  ordered : IsOrdered nat_cmp l.groups;
  groups : (m : ℕ) → IsGroupAt (λ v. v.items) (take l.step l.moments) m (get nat_cmp l.groups m);
}
