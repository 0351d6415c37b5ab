use Rattle.std.proofs.Common.{◌≡◌, ◌+◌, ℕ, [], drop, get_or, arith, rules, refl, sym, subst, ◌∙◌}
use Rattle.std.specs.List.{AllByRecursion}
use Rattle.std.proofs.lemmas.List.{drop_all}
use Rattle.pddl_happenings.specs.Failures.{FirstAt}
use Rattle.pddl_judge.specs.Touches.{touch_in, touch_of, overlap, Apart}
use Rattle.pddl_judge.specs.Verdicts.{IsLeast}
use Rattle.pddl_judge.proofs.Stores.{owned_grown, touch_grown}
use Rattle.pddl_judge.proofs.Overlaps.{all_more, first_more, first_here, default}
use Rattle.pddl_judge.proofs.clash.first_in_row.Goals as goal

pub loop-j-init : goal.loop-j-init
loop-j-init g c =
    let p = g.P.Course.steps_of c.args.course.now in
    let s = g.S.AtomStore.content c.args.store.now c.args.state.now in
    let x = touch_in (g.S.AtomStore.content c.args.store.now) c.args.one.now in
    let from_start : (k : ℕ) → k ≡ 0 + k = λ k. omega arith in
    record {
      rows = λ w. w;
      first = λ a k w. subst (FirstAt (λ j. Apart x (touch_of (p j) s)) (λ j. IsLeast a (overlap x (touch_of (p j) s))) c.args.rest.now) (from_start k) w;
      others_own = λ t h. h;
      others = λ t h. refl;
    }

pub clash_with-requires : goal.clash_with-requires
clash_with-requires g c =
    let owns = g.S.AtomStore.owns in
    let content = g.S.AtomStore.content in
    record {
      step = c.requires.steps c.loop-j.j 0 c.loop-j-test.true;
      own = c.loop-j.invariant.others_own c.args.state.now c.requires.own;
      one_own = owned_grown (owns c.args.store.now) (owns c.loop-j.store) (content c.args.store.now) (content c.loop-j.store) c.loop-j.invariant.others_own c.loop-j.invariant.others c.args.one.now c.requires.one_own;
    }

pub returns : goal.returns
returns g c =
    let p = g.P.Course.steps_of c.args.course.now in
    let s = g.S.AtomStore.content c.args.store.now c.args.state.now in
    let x = touch_in (g.S.AtomStore.content c.args.store.now) c.args.one.now in
    let none : drop c.loop-j.j c.args.rest.now ≡ [] = drop_all c.loop-j.j c.args.rest.now c.loop-j-test.false in
    record {
      within = tt;
      first = c.loop-j.invariant.rows (subst (AllByRecursion (λ k. Apart x (touch_of (p k) s))) (sym none) tt);
      others_own = c.loop-j.invariant.others_own;
      others = c.loop-j.invariant.others;
    }

pub returns-in-Some-clause-first : goal.returns-in-Some-clause-first
returns-in-Some-clause-first g c =
    let owns = g.S.AtomStore.owns in
    let content = g.S.AtomStore.content in
    let p = g.P.Course.steps_of c.args.course.now in
    let s = content c.args.store.now c.args.state.now in
    let x = touch_in (content c.args.store.now) c.args.one.now in
    let a = c.in-Some.atom in
    let xs = c.args.rest.now in
    let d : ℕ = get_or xs c.loop-j.j 0 in
    let state_same : content c.loop-j.store c.args.state.now ≡ s = c.loop-j.invariant.others c.args.state.now c.requires.own in
    let one_same : touch_in (content c.loop-j.store) c.args.one.now ≡ x = touch_grown (owns c.args.store.now) (owns c.loop-j.store) (content c.args.store.now) (content c.loop-j.store) c.loop-j.invariant.others_own c.loop-j.invariant.others c.args.one.now c.requires.one_own in
    let there : IsLeast a (overlap (touch_in (content c.loop-j.store) c.args.one.now) (touch_of (p d) (content c.loop-j.store c.args.state.now))) = search rules in
    let least : IsLeast a (overlap x (touch_of (p d) s)) = subst (λ t. IsLeast a (overlap x (touch_of (p d) t))) state_same (subst (λ o. IsLeast a (overlap o (touch_of (p d) (content c.loop-j.store c.args.state.now)))) one_same there) in
    first_here xs c.loop-j.j d (default xs c.loop-j.j 0 d c.loop-j-test.true) c.loop-j-test.true (λ k. Apart x (touch_of (p k) s)) (λ k. IsLeast a (overlap x (touch_of (p k) s))) (c.loop-j.invariant.first a) least

pub loop-j-preserved : goal.loop-j-preserved
loop-j-preserved g c =
    let owns = g.S.AtomStore.owns in
    let content = g.S.AtomStore.content in
    let p = g.P.Course.steps_of c.args.course.now in
    let s = content c.args.store.now c.args.state.now in
    let x = touch_in (content c.args.store.now) c.args.one.now in
    let xs = c.args.rest.now in
    let d : ℕ = get_or xs c.loop-j.j 0 in
    let at : d ≡ get_or xs c.loop-j.j d = default xs c.loop-j.j 0 d c.loop-j-test.true in
    let state_same : content c.loop-j.store c.args.state.now ≡ s = c.loop-j.invariant.others c.args.state.now c.requires.own in
    let one_same : touch_in (content c.loop-j.store) c.args.one.now ≡ x = touch_grown (owns c.args.store.now) (owns c.loop-j.store) (content c.args.store.now) (content c.loop-j.store) c.loop-j.invariant.others_own c.loop-j.invariant.others c.args.one.now c.requires.one_own in
    let there : Apart (touch_in (content c.loop-j.store) c.args.one.now) (touch_of (p d) (content c.loop-j.store c.args.state.now)) = search rules in
    let apart : Apart x (touch_of (p d) s) = subst (λ t. Apart x (touch_of (p d) t)) state_same (subst (λ o. Apart o (touch_of (p d) (content c.loop-j.store c.args.state.now))) one_same there) in
    record {
      rows = all_more xs c.loop-j.j d at c.loop-j-test.true (λ k. Apart x (touch_of (p k) s)) c.loop-j.invariant.rows apart;
      first = λ a. first_more xs c.loop-j.j d at c.loop-j-test.true (λ k. Apart x (touch_of (p k) s)) (λ k. IsLeast a (overlap x (touch_of (p k) s))) (c.loop-j.invariant.first a) apart;
      others_own = λ t h. c.clash_with.ensures.others_own t (c.loop-j.invariant.others_own t h);
      others = λ t h. c.clash_with.ensures.others t (c.loop-j.invariant.others_own t h) ∙ c.loop-j.invariant.others t h;
    }
