use Rattle.std.proofs.Common.{◌≡◌, ◌+◌, ℕ, [], rules, arith, refl, get_or, drop, false, subst, sym, ◌∙◌}
use Rattle.std.specs.List.{AllByRecursion}
use Rattle.std.proofs.lemmas.List.{drop_all}
use Rattle.std.proofs.lemmas.List.Elements.{All-from_recursion}
use Rattle.pddl_happenings.specs.Accepted.{IsReady}
use Rattle.pddl_happenings.specs.Failures.{FirstAt}
use Rattle.pddl_judge.proofs.Overlaps.{all_more, first_more, first_here, default}
use Rattle.pddl_judge.proofs.stage.first_unready.Goals as goal

pub loop-i-preserved : goal.loop-i-preserved
loop-i-preserved g c =
    let p = g.P.Course.steps_of c.args.course.now in
    let s = g.S.AtomStore.content c.args.store.now c.args.state.now in
    let xs = c.args.group.now in
    let i = c.loop-i.i in
    let d = get_or xs i 0 in
    let at : d ≡ get_or xs i d = default xs i 0 d c.loop-i-test.true in
    let yes : IsReady p s d = search rules in
    record {
      all = all_more xs i d at c.loop-i-test.true (IsReady p s) c.loop-i.invariant.all yes;
      first = first_more xs i d at c.loop-i-test.true (IsReady p s) (λ j. (p j).ready s ≡ false) c.loop-i.invariant.first yes;
    }

pub loop-i-init : goal.loop-i-init
loop-i-init g c =
    let p = g.P.Course.steps_of c.args.course.now in
    let s = g.S.AtomStore.content c.args.store.now c.args.state.now in
    let from_start : (k : ℕ) → k ≡ 0 + k = λ k. omega arith in
    record {
      all = λ w. w;
      first = λ k w. subst (FirstAt (IsReady p s) (λ j. (p j).ready s ≡ false) c.args.group.now) (from_start k) w;
    }

pub holds-requires : goal.holds-requires
holds-requires g c = record {
  step = c.requires.steps c.loop-i.i 0 c.loop-i-test.true;
  own = c.requires.own;
}

pub returns-then-not-ready : goal.returns-then-not-ready
returns-then-not-ready g c =
    let p = g.P.Course.steps_of c.args.course.now in
    let s = g.S.AtomStore.content c.args.store.now c.args.state.now in
    let xs = c.args.group.now in
    let i = c.loop-i.i in
    let d = get_or xs i 0 in
    let at : d ≡ get_or xs i d = default xs i 0 d c.loop-i-test.true in
    record {
      place = i;
      is = refl;
      first = first_here xs i d at c.loop-i-test.true (IsReady p s) (λ j. (p j).ready s ≡ false) c.loop-i.invariant.first (sym c.in_ok-ready.ensures ∙ c.if-not-ready.true);
    }

pub returns : goal.returns
returns g c =
    let p = g.P.Course.steps_of c.args.course.now in
    let s = g.S.AtomStore.content c.args.store.now c.args.state.now in
    let xs = c.args.group.now in
    let none : drop c.loop-i.i xs ≡ [] = drop_all c.loop-i.i xs c.loop-i-test.false in
    All-from_recursion (IsReady p s) xs (c.loop-i.invariant.all (subst (AllByRecursion (IsReady p s)) (sym none) tt))
