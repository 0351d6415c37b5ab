use Rattle.std.proofs.Common.{◌≡◌, ◌≤◌, ◌*◌, ℕ, ◌+◌, drop, length}
use Rattle.std.specs.List.{concat}
use Rattle.pddl_state.specs.Atoms.{AtomValue}
use Rattle.pddl_happenings.specs.Accepted.{AllFine, after_all, cost_of_all}
use Rattle.pddl_happenings.specs.Failures.{IsFirstUnready, IsFirstClash, AtHappening}
use Rattle.pddl_judge.specs.HappeningValues.{groups_of}
use Rattle.pddl_judge.specs.Verdicts.{IsLeast}
use Rattle.pddl_judge.proofs.verdict.run.Given as goal

-- what is left, from the state so far, goes as the whole; and there is room for its cost
abbrev pub invariant-loop-h : goal.invariant-loop-h
invariant-loop-h g l =
    let p = g.P.Course.steps_of l.course in
    let start = g.S.AtomStore.content l.fn.store l.fn.state in
    let here = g.S.AtomStore.content l.store l.state in
    let left = groups_of (drop l.h l.happenings) in
    let whole = groups_of l.happenings in
    record {
      own : g.S.AtomStore.owns l.store l.state;
      fine : AllFine p here left → AllFine p start whole;
      end : after_all p here left ≡ after_all p start whole;
      cost_is : l.cost + cost_of_all p here left ≡ cost_of_all p start whole;
      room : l.cost + length (concat left) * 18446744073709551616000000 ≤ 18446744073709551616000000000000;
      few : length (concat left) ≤ 1000000;
      unready : (step n : ℕ) → AtHappening p (λ s q. IsFirstUnready p s q step) here left n → AtHappening p (λ s q. IsFirstUnready p s q step) start whole (l.h + n);
      clashes : (first second : ℕ) (a : AtomValue) (n : ℕ) → AtHappening p (λ s q. IsFirstClash p (IsLeast a) s q first second) here left n → AtHappening p (λ s q. IsFirstClash p (IsLeast a) s q first second) start whole (l.h + n);
    }
