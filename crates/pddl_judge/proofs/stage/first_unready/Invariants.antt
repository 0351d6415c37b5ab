use Rattle.std.proofs.Common.{◌≡◌, ℕ, ◌+◌, drop, false}
use Rattle.std.specs.List.{AllByRecursion}
use Rattle.pddl_happenings.specs.Accepted.{IsReady}
use Rattle.pddl_happenings.specs.Failures.{FirstAt}
use Rattle.pddl_judge.proofs.stage.first_unready.Given as goal

-- what is left is as the whole
abbrev pub invariant-loop-i : goal.invariant-loop-i
invariant-loop-i g l =
    let p = g.P.Course.steps_of l.course in
    let s = g.S.AtomStore.content l.store l.state in
    record {
      all : AllByRecursion (IsReady p s) (drop l.i l.group) → AllByRecursion (IsReady p s) l.group;
      first : (k : ℕ) → FirstAt (IsReady p s) (λ j. (p j).ready s ≡ false) (drop l.i l.group) k → FirstAt (IsReady p s) (λ j. (p j).ready s ≡ false) l.group (l.i + k);
    }
