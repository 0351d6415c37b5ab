use Rattle.std.proofs.Common.{◌≡◌, ◌++◌, map}
use Rattle.std.specs.Prelude.{Some}
use Rattle.pddl_judge.proofs.plan_happenings.timed_happenings.Given as goal

-- what is made and what is left are the whole
abbrev pub invariant-loop-moment : goal.invariant-loop-moment
invariant-loop-moment g l = record {
  moments : map (λ h. h.moment) l.happenings.items ++ map (λ e. Some e.0) l.moment-iterator ≡ map (λ e. Some e.0) l.initial.moment-iterator;
  steps : map (λ h. h.steps) l.happenings.items ++ map (λ e. e.1.items) l.moment-iterator ≡ map (λ e. e.1.items) l.initial.moment-iterator;
}
