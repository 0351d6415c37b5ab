use Rattle.std.proofs.Common.{◌≡◌, ◌≤◌, ℕ, ◌+◌, ◌<◌, drop, length}
use Rattle.std.specs.Prelude.{MatchOption, IfSome}
use Rattle.pddl_happenings.specs.Accepted.{NoClash}
use Rattle.pddl_judge.specs.Touches.{touch_in, touches_of, Owned, AllPairwise, FirstRowAt}
use Rattle.pddl_judge.proofs.clash.first_row.Given as goal

-- the sets are of what is left, and so is the row
abbrev pub invariant-loop-i : goal.invariant-loop-i
invariant-loop-i g l =
    let owns = g.S.AtomStore.owns in
    let content = g.S.AtomStore.content in
    let p = g.P.Course.steps_of l.course in
    let s = content l.fn.store l.state in
    record {
      within : l.i ≤ length l.group;
      own : Owned (owns l.store) l.behind;
      touches : touch_in (content l.store) l.behind ≡ touches_of p s (drop l.i l.group);
      row_within : IfSome l.row (λ r. r < length l.group);
      row_is : MatchOption l.row (AllPairwise (NoClash p s) (drop l.i l.group)) (λ r. (x : ℕ) × (r ≡ l.i + x) × FirstRowAt (NoClash p s) (drop l.i l.group) x);
      others_own : (t : _) → owns l.fn.store t → owns l.store t;
      others : (t : _) → owns l.fn.store t → content l.store t ≡ content l.fn.store t;
    }

abbrev pub decreases-loop-i : goal.decreases-loop-i
decreases-loop-i g l = l.i
