use Rattle.std.proofs.Common.{◌≡◌, ℕ, ◌+◌, drop}
use Rattle.std.specs.List.{AllByRecursion}
use Rattle.pddl_state.specs.Atoms.{AtomValue}
use Rattle.pddl_happenings.specs.Failures.{FirstAt}
use Rattle.pddl_judge.specs.Touches.{touch_in, touch_of, overlap, Apart}
use Rattle.pddl_judge.specs.Verdicts.{IsLeast}
use Rattle.pddl_judge.proofs.clash.first_in_row.Given as goal

-- what is left is as the whole
abbrev pub invariant-loop-j : goal.invariant-loop-j
invariant-loop-j g l =
    let owns = g.S.AtomStore.owns in
    let content = g.S.AtomStore.content in
    let p = g.P.Course.steps_of l.course in
    let s = content l.fn.store l.state in
    let x = touch_in (content l.fn.store) l.one in
    record {
      rows : AllByRecursion (λ k. Apart x (touch_of (p k) s)) (drop l.j l.rest) → AllByRecursion (λ k. Apart x (touch_of (p k) s)) l.rest;
      first : (a : AtomValue) (k : ℕ) → FirstAt (λ k. Apart x (touch_of (p k) s)) (λ k. IsLeast a (overlap x (touch_of (p k) s))) (drop l.j l.rest) k → FirstAt (λ k. Apart x (touch_of (p k) s)) (λ k. IsLeast a (overlap x (touch_of (p k) s))) l.rest (l.j + k);
      others_own : (t : _) → owns l.fn.store t → owns l.store t;
      others : (t : _) → owns l.fn.store t → content l.store t ≡ content l.fn.store t;
    }
