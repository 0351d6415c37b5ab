use Rattle.std.proofs.Common.{◌≡◌, ◌-◌, ℕ, drop, get_or, rules, arith, subst, sym, ap, ◌∙◌}
use Rattle.std.specs.List.{AllByRecursion}
use Rattle.pddl_happenings.specs.Accepted.{NoClash}
use Rattle.pddl_judge.specs.Touches.{Apart, touch_in, touch_of, join_of}
use Rattle.pddl_judge.proofs.Overlaps.{touches_down, row_kept, row_found, apart_here, here_apart}
use Rattle.pddl_judge.proofs.clash.first_row.Goals as goal

pub loop-i-preserved-then-not-apart : goal.loop-i-preserved-then-not-apart
loop-i-preserved-then-not-apart g c =
    let owns = g.S.AtomStore.owns in
    let content = g.S.AtomStore.content in
    let p = g.P.Course.steps_of c.args.course.now in
    let s = content c.args.store.now c.args.state.now in
    let xs = c.args.group.now in
    let i = c.loop-i.i in
    let here : ℕ = get_or xs (i - 1) 0 in
    let within = c.loop-i.invariant.within in
    let some = c.loop-i-test.true in
    let old = touch_in (content c.loop-i.store) c.loop-i.behind in
    let state_same : content c.loop-i.store c.args.state.now ≡ s = c.loop-i.invariant.others c.args.state.now c.requires.own in
    let grown : touch_in (content c.join_step.new.store) c.join_step.new.behind ≡ join_of old (touch_of (p here) s) = c.in_ok-apart.ensures.content ∙ ap (λ t. join_of old (touch_of (p here) t)) state_same in
    let meets : AllByRecursion (NoClash p s here) (drop i xs) → ⊥ = λ all. (let known : Apart (touch_of (p here) (content c.loop-i.store c.args.state.now)) old = subst (λ t. Apart (touch_of (p here) t) old) (sym state_same) (here_apart p s xs i some within old c.loop-i.invariant.touches all) in search rules) in
    record {
      within = omega (arith, within);
      own = search rules;
      touches = touches_down p s xs i some within old (touch_in (content c.join_step.new.store) c.join_step.new.behind) c.loop-i.invariant.touches grown;
      row_within = omega (arith, within, some);
      row_is = row_found p s xs i some within meets;
      others_own = λ t h. c.join_step.ensures.others_own t (c.loop-i.invariant.others_own t h);
      others = λ t h. c.join_step.ensures.others t (c.loop-i.invariant.others_own t h) ∙ c.loop-i.invariant.others t h;
    }

pub loop-i-preserved : goal.loop-i-preserved
loop-i-preserved g c =
    let owns = g.S.AtomStore.owns in
    let content = g.S.AtomStore.content in
    let p = g.P.Course.steps_of c.args.course.now in
    let s = content c.args.store.now c.args.state.now in
    let xs = c.args.group.now in
    let i = c.loop-i.i in
    let here : ℕ = get_or xs (i - 1) 0 in
    let within = c.loop-i.invariant.within in
    let some = c.loop-i-test.true in
    let old = touch_in (content c.loop-i.store) c.loop-i.behind in
    let state_same : content c.loop-i.store c.args.state.now ≡ s = c.loop-i.invariant.others c.args.state.now c.requires.own in
    let grown : touch_in (content c.join_step.new.store) c.join_step.new.behind ≡ join_of old (touch_of (p here) s) = c.in_ok-apart.ensures.content ∙ ap (λ t. join_of old (touch_of (p here) t)) state_same in
    let known : Apart (touch_of (p here) (content c.loop-i.store c.args.state.now)) old = (c.in_ok-apart.ensures.apart).0 (search rules) in
    let all = apart_here p s xs i some within old c.loop-i.invariant.touches (subst (λ t. Apart (touch_of (p here) t) old) state_same known) in
    record {
      within = omega (arith, within);
      own = search rules;
      touches = touches_down p s xs i some within old (touch_in (content c.join_step.new.store) c.join_step.new.behind) c.loop-i.invariant.touches grown;
      row_within = c.loop-i.invariant.row_within;
      row_is = row_kept p s xs i some within c.loop-i.row c.loop-i.invariant.row_is all;
      others_own = λ t h. c.join_step.ensures.others_own t (c.loop-i.invariant.others_own t h);
      others = λ t h. c.join_step.ensures.others t (c.loop-i.invariant.others_own t h) ∙ c.loop-i.invariant.others t h;
    }
