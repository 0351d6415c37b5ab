use Rattle.std.proofs.Common.{◌≡◌, ℕ, ◌+◌, ◌≤◌, Bool, true, List, [], length, drop, get_or, refl, sym, ap, subst, ◌∙◌, arith}
use Rattle.std.proofs.lemmas.List.{drop_all}
use Rattle.pddl_happenings.specs.Accepted.{after_all, cost_of_all}
use Rattle.pddl_happenings.specs.Happenings.{singles}
use Rattle.pddl_happenings.specs.Serialisations.{FailsAt, RunsSerially}
use Rattle.pddl_happenings.specs.Steps.{Step}
use Rattle.pddl_serial.proofs.Left.{runs_more, ends_more, costs_more, fails_more, fails_here}
use Rattle.pddl_serial.proofs.serial_run.run_serially.Goals as goal

pub returns-then-not-ready-clause-fails : goal.returns-then-not-ready-clause-fails
returns-then-not-ready-clause-fails g c =
    fails_here (g.P.Course.steps_of c.args.course.now) (g.S.AtomStore.content c.args.store.now c.args.state.now) (g.S.AtomStore.content c.loop-i.store c.loop-i.state) c.args.order.now c.loop-i.i c.loop-i-test.true c.loop-i.invariant.fails (sym c.in_ok-ready.ensures ∙ c.if-not-ready.true)

pub loop-i-preserved : goal.loop-i-preserved
loop-i-preserved g c =
    let p = g.P.Course.steps_of c.args.course.now in
    let start = g.S.AtomStore.content c.args.store.now c.args.state.now in
    let here = g.S.AtomStore.content c.loop-i.store c.loop-i.state in
    let order = c.args.order.now in
    let i = c.loop-i.i in
    let ready : (p (get_or order i 0)).ready here ≡ true = sym c.in_ok-ready.ensures ∙ c.if-not-ready.false in
    let spent : c.in_ok-cost.field-0 ≡ (p (get_or order i 0)).cost here = c.in_ok-cost.ensures.value in
    record {
      own = c.in_ok-apply_alone.ensures.own;
      runs = rw c.in_ok-apply_alone.ensures.content (runs_more p start here order i c.loop-i-test.true c.loop-i.invariant.runs ready);
      ends = rw c.in_ok-apply_alone.ensures.content (ends_more p start here order i c.loop-i-test.true c.loop-i.invariant.ends);
      costs = rw c.in_ok-apply_alone.ensures.content (costs_more p start here order i c.loop-i-test.true c.loop-i.cost c.in_ok-cost.field-0 c.loop-i.invariant.costs spent);
      room = omega (arith, c.loop-i.invariant.room, c.in_ok-cost.ensures.bound);
      fails = rw c.in_ok-apply_alone.ensures.content (fails_more p start here order i c.loop-i-test.true c.loop-i.invariant.fails ready);
    }

from_start : (k : ℕ) → k ≡ 0 + k
from_start k = omega arith

pub loop-i-init : goal.loop-i-init
loop-i-init g c = record {
  own = c.requires.own;
  runs = λ w. w;
  ends = refl;
  costs = omega arith;
  room = omega arith;
  fails = λ k w. subst (FailsAt (g.P.Course.steps_of c.args.course.now) (g.S.AtomStore.content c.args.store.now c.args.state.now) c.args.order.now) (from_start k) w;
}

-- nothing is left at the end
module _ {A : Type 0} (p : ℕ → Step A) (start here : A → Bool) (order : List ℕ) (i : ℕ) (done : length order ≤ i) where
  none : drop i order ≡ []
  none = drop_all i order done

  runs_at : (RunsSerially p here (drop i order) → RunsSerially p start order) → RunsSerially p start order
  runs_at so_far = so_far (subst (RunsSerially p here) (sym none) tt)

  end_at : after_all p here (singles (drop i order)) ≡ after_all p start (singles order) → here ≡ after_all p start (singles order)
  end_at so_far = sym (ap (λ l. after_all p here (singles l)) none) ∙ so_far

  cost_at : (cost : ℕ) → cost + cost_of_all p here (singles (drop i order)) ≡ cost_of_all p start (singles order) → cost ≡ cost_of_all p start (singles order)
  cost_at cost so_far = omega (arith, so_far, ap (λ l. cost_of_all p here (singles l)) none)

pub returns : goal.returns
returns g c =
    let p = g.P.Course.steps_of c.args.course.now in
    let start = g.S.AtomStore.content c.args.store.now c.args.state.now in
    let here = g.S.AtomStore.content c.loop-i.store c.loop-i.state in
    let order = c.args.order.now in
    let i = c.loop-i.i in
    record {
      own = c.loop-i.invariant.own;
      runs = runs_at p start here order i c.loop-i-test.false c.loop-i.invariant.runs;
      end = end_at p start here order i c.loop-i-test.false c.loop-i.invariant.ends;
      cost = cost_at p start here order i c.loop-i-test.false c.loop-i.cost c.loop-i.invariant.costs;
      fails = tt;
    }
