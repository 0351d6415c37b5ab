use Rattle.std.proofs.Common.{◌+◌, arith, take, sym, ap, ◌∙◌}
use Rattle.std.proofs.lemmas.List.Sums.{sum_by_more}
use Rattle.pddl_happenings.specs.Accepted.{cost_of}
use Rattle.pddl_judge.proofs.stage.group_cost.Goals as goal

pub loop-step-preserved : goal.loop-step-preserved
loop-step-preserved g c =
    let p = g.P.Course.steps_of c.args.course.now in
    let s = g.S.AtomStore.content c.args.store.now c.args.state.now in
    let xs = c.args.group.now in
    let i = c.loop-step.step-index in
    record {
      value = ap (λ n. n + c.in_ok-total.field-0) c.loop-step.invariant.value ∙ (ap (λ n. cost_of p s (take i xs) + n) c.in_ok-total.ensures.value ∙ sym (sum_by_more (λ k. (p k).cost s) xs i 0 c.loop-step-test.true));
      bound = omega (arith, c.loop-step.invariant.bound, c.in_ok-total.ensures.bound);
    }
