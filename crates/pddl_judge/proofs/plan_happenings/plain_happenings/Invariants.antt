use Rattle.std.proofs.Common.{◌≡◌, ◌-◌, ◌++◌}
use Rattle.std.specs.Prelude.{All, None}
use Rattle.pddl_happenings.specs.Happenings.{singles, numbers_to, plain_happenings}
use Rattle.pddl_judge.specs.HappeningValues.{groups_of, moments_of}
use Rattle.pddl_judge.proofs.plan_happenings.plain_happenings.Given as goal

-- what is done and what is left are the whole
abbrev pub invariant-loop-step : goal.invariant-loop-step
invariant-loop-step g l = record {
  no_moments : All (λ m. m ≡ None) (moments_of l.happenings.items);
  steps : groups_of l.happenings.items ++ singles (numbers_to l.step (l.steps - l.step)) ≡ plain_happenings l.steps;
}
