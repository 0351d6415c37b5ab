use Rattle.std.proofs.Common.{◌<◌, ◌≤◌, ℕ, List, [], length, refl, ap, ◌∙◌, arith}
use Rattle.std.specs.List.{flat_map}
use Rattle.std.proofs.lemmas.List.{take_all}
use Rattle.std.proofs.lemmas.Result.{err_from_is_err_and}
use Rattle.pddl_plan.specs.Plans.{plan_view}
use Rattle.pddl_layout.specs.Inner.PlanLines.{lines_of}
use Rattle.pddl_layout.proofs.PlanLines.{as_many, text_of_lines}
use Rattle.pddl_layout.proofs.Printed.{nothing, stops_as, wrote_as, element_on, element_stops}
use Rattle.pddl_layout.proofs.plan.put_plan.Goals as goal

pub loop-number-init : goal.loop-number-init
loop-number-init g c = (nothing (g.W.Sink.contents c.args.out.now), refl)

pub returns-in_err-put_step-clause-printed : goal.returns-in_err-put_step-clause-printed
returns-in_err-put_step-clause-printed g c =
    let l = c.loop-number in
    let plan = plan_view c.args.plan.now in
    let lt : l.number < length (lines_of plan) = omega (arith, as_many plan, c.len-number-end.ensures.value, c.loop-number-test.true) in
    let p = err_from_is_err_and c.from_residual.result c.from_residual.ensures.1 in
    rw p.1 (stops_as _ _ _ _ _ _ (text_of_lines plan) (element_stops (λ (line : List ℕ). line) _ _ _ _ _ _ (lines_of plan) l.number [] lt l.invariant c.in_err-put_step.ensures))

pub loop-number-preserved : goal.loop-number-preserved
loop-number-preserved g c =
    let l = c.loop-number in
    let plan = plan_view c.args.plan.now in
    let lt : l.number < length (lines_of plan) = omega (arith, as_many plan, c.len-number-end.ensures.value, c.loop-number-test.true) in
    element_on (λ (line : List ℕ). line) _ _ _ _ _ _ (lines_of plan) l.number [] lt l.invariant c.in_ok-put_step.ensures

pub returns-clause-printed : goal.returns-clause-printed
returns-clause-printed g c =
    let l = c.loop-number in
    let plan = plan_view c.args.plan.now in
    let past : length (lines_of plan) ≤ l.number = omega (arith, as_many plan, c.len-number-end.ensures.value, c.loop-number-test.false) in
    wrote_as _ _ _ _ _ _ (ap (flat_map (λ (line : List ℕ). line)) (take_all l.number (lines_of plan) past) ∙ text_of_lines plan) l.invariant
