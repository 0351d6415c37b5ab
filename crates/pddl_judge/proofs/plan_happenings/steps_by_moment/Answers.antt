use Rattle.std.proofs.Common.{rules, sym, ap, subst, ◌∙◌, ◌≡◌, ◌<◌, ℕ, length, [], ◌∷◌, ◌++◌, get_or}
use Rattle.std.specs.Prelude.{Some, None, MatchOption}
use Rattle.std.specs.Ordering.{nat_cmp}
use Rattle.std.specs.BTreeMap.{get, Updates}
use Rattle.pddl_judge.proofs.ByMoment.{group_more}
use Rattle.pddl_judge.proofs.plan_happenings.steps_by_moment.Goals.{in-Some, in-None}
use Rattle.pddl_judge.proofs.plan_happenings.steps_by_moment.Goals as goal

pub loop-step-preserved : goal.loop-step-preserved
loop-step-preserved g c =
    let ms = c.args.moments.now in
    let i = c.loop-step.step in
    let x : ℕ = get_or ms i 0 in
    let lt : i < length ms = search rules in
    let old : Updates nat_cmp c.loop-step.groups c.remove.new.self x None = c.remove.ensures.updates in
    let new : Updates nat_cmp c.remove.new.self c.insert.new.self x (Some c.push.new.self) = search rules in
    let was : c.remove.result ≡ get nat_cmp c.loop-step.groups x = c.remove.ensures.value in
    let before : MatchOption c.remove.result (c.match-remove.steps.items ≡ []) (λ w. c.match-remove.steps.items ≡ w.items) = elim c.match-remove.branch [
      | in-Some w ↦ subst (λ o. MatchOption o (c.match-remove.steps.items ≡ []) (λ v. c.match-remove.steps.items ≡ v.items)) (sym w.in-Some.is) (ap (λ v. v.items) w.steps-is)
      | in-None w ↦ subst (λ o. MatchOption o (c.match-remove.steps.items ≡ []) (λ v. c.match-remove.steps.items ≡ v.items)) (sym w.in-None.is) (ap (λ v. v.items) w.steps-is ∙ search rules)
    ] in
    let more : c.push.new.self.items ≡ c.match-remove.steps.items ++ i ∷ [] = search rules in
    record {
      ordered = search rules;
      groups = group_more (λ v. v.items) ms i lt c.loop-step.groups c.remove.new.self c.insert.new.self c.remove.result c.match-remove.steps.items c.push.new.self c.loop-step.invariant.groups old new was before more;
    }
