use Rattle.std.proofs.Common.{◌≡◌, ◌<◌, ◌≤◌, ℕ, List, [], ◌∷◌, ◌++◌, length, drop, ap, ◌∙◌, arith}
use Rattle.pddl_token.specs.Number.{largest}
use Rattle.pddl_plan.specs.Cuts.{cut, last_end}
use Rattle.pddl_plan.specs.Building.{Building, ended_at}
use Rattle.pddl_plan.proofs.BuiltPlans.{timed_held, timed_ended}
use Rattle.pddl_plan.proofs.plan_builder.PlanBuilder.end_step_at.Goals as goal

pub invariant_of-self-2 : goal.invariant_of-self-2
invariant_of-self-2 g c =
    let names = c.self.inside.names in
    let ends = c.self.inside.ends.items in
    let moments = c.self.inside.moments.items in
    let some : 0 < length (drop (last_end 0 ends) names) = omega (arith, c.requires.named, ap (λ (b : Building). length b.names) c.self.view_is) in
    let in_range : c.args.moment ≤ largest = omega (arith, c.billionths-in_range.ensures.value, c.billionths-in_range.ensures.in_range) in
    let as_long : length moments ≡ length (cut names 0 ends) = omega (arith, c.requires.timed, ap (λ (b : Building). length b.moments) c.self.view_is, ap (λ (b : Building). length b.steps) c.self.view_is) in
    timed_held names ends moments c.self.invariant c.len-end.result c.len-end.ensures.value some c.push.new.self.items c.in_ok-push.ensures.items c.args.moment in_range as_long c.push-2.new.self.items
    (c.in_ok-push-2.ensures.items ∙ ap (λ (ms : List ℕ). ms ++ c.args.moment ∷ []) c.in_ok-reserve.ensures.items)

pub returns-clause-ended : goal.returns-clause-ended
returns-clause-ended g c =
    let names = c.self.inside.names in
    let ends = c.self.inside.ends.items in
    let moments = c.self.inside.moments.items in
    let some : 0 < length (drop (last_end 0 ends) names) = omega (arith, c.requires.named, ap (λ (b : Building). length b.names) c.self.view_is) in
    let in_range : c.args.moment ≤ largest = omega (arith, c.billionths-in_range.ensures.value, c.billionths-in_range.ensures.in_range) in
    let as_long : length moments ≡ length (cut names 0 ends) = omega (arith, c.requires.timed, ap (λ (b : Building). length b.moments) c.self.view_is, ap (λ (b : Building). length b.steps) c.self.view_is) in
    timed_ended names ends moments c.self.invariant c.len-end.result c.len-end.ensures.value some c.push.new.self.items c.in_ok-push.ensures.items c.args.moment in_range as_long c.push-2.new.self.items
    (c.in_ok-push-2.ensures.items ∙ ap (λ (ms : List ℕ). ms ++ c.args.moment ∷ []) c.in_ok-reserve.ensures.items)
    ∙ ap (ended_at c.args.moment) c.self.view_is
