use Rattle.std.proofs.Common.{◌≡◌, ◌<◌, [], ◌∷◌, ◌++◌, length, drop, sym, ap, ◌∙◌, refl, arith}
use Rattle.std.specs.Prelude.{Ok, nat_lt}
use Rattle.std.proofs.lemmas.List.{drop_all, length-append, length-map}
use Rattle.pddl_items.specs.Items.{items_view}
use Rattle.pddl_plan.specs.Building.{Building}
use Rattle.pddl_plan.specs.Plans.{step_of_names, steps_built, timed_built}
use Rattle.pddl_step_reader.specs.Inner.PlanReading.{timed_at, timed_fault}
use Rattle.pddl_step_reader.proofs.BuiltSteps.{moment_pushed, moments_pushed, timed_behind, plan_is_timed}
use Rattle.pddl_step_reader.proofs.PlanSteps.{timed_on, timed_stop, timed_end, got_timed, no_timed_added, timed_kept, timed_got, some_timed_got}
use Rattle.pddl_step_reader.proofs.plan_items.add_timed_steps.Goals as goal

pub loop-at-init : goal.loop-at-init
loop-at-init g c = record { read = refl; three = omega arith; timed = c.requires.timed; none = c.requires.none }

pub returns-in_default-clause-refused : goal.returns-in_default-clause-refused
returns-in_default-clause-refused g c =
    let l = c.loop-at in
    let lt : l.at < length c.args.items.now = omega arith in
    let adds = c.in_ok-moment.ensures in
    let none = no_timed_added c.in_ok-moment.field-0 _ l.plan c.add_timed.new.plan c.in_default.is adds ∙ ap (λ items. timed_at (items_view items)) c.split_at.ensures.back in
    timed_stop c.args.items.now l.at (timed_built l.plan) _ c.in_ok-timed_fault.field-0 _ lt l.invariant.read none
    (timed_behind l.plan c.len-behind.result _ l.invariant.timed (c.len-behind.ensures.value ∙ ap length (timed_kept c.in_ok-moment.field-0 _ l.plan c.add_timed.new.plan c.in_default.is adds)) refl)
    (c.in_ok-timed_fault.ensures ∙ ap (λ items. timed_fault (nat_lt 0 c.len-behind.result) (items_view items)) c.split_at.ensures.back)

pub end_step_at-requires-clause-named : goal.end_step_at-requires-clause-named
end_step_at-requires-clause-named g c =
    let l = c.loop-at in
    some_timed_got (got_timed c.in_ok-moment.field-0 c.in-Some.moment _ l.plan c.add_timed.new.plan c.in-Some.is c.in_ok-moment.ensures)

pub end_step_at-requires-clause-timed : goal.end_step_at-requires-clause-timed
end_step_at-requires-clause-timed g c =
    let l = c.loop-at in
    let got = got_timed c.in_ok-moment.field-0 c.in-Some.moment _ l.plan c.add_timed.new.plan c.in-Some.is c.in_ok-moment.ensures in
    omega (arith, l.invariant.timed, ap length got.moments, ap length got.steps)

pub loop-at-preserved : goal.loop-at-preserved
loop-at-preserved g c =
    let l = c.loop-at in
    let read = c.add_timed.new.plan in
    let new = c.end_step_at.new.self in
    let got = got_timed c.in_ok-moment.field-0 c.in-Some.moment _ l.plan read c.in-Some.is c.in_ok-moment.ensures in
    let some = got.some ∙ ap (λ items. timed_at (items_view items)) c.split_at.ensures.back in
    record {
      read = timed_on c.args.items.now l.at (timed_built l.plan) (timed_built new) (record { moment = c.in-Some.moment; step = got.step }) _ l.invariant.read some
          (moment_pushed l.plan read new c.in-Some.moment l.invariant.timed got.moments got.steps c.in_ok-end_step_at.ensures.ended
          ∙ ap (λ step. timed_built l.plan ++ record { moment = c.in-Some.moment; step = step } ∷ []) (timed_got l.invariant.none got));
      three = omega (arith, l.invariant.three, ap (λ (b : Building). length b.steps) c.in_ok-end_step_at.ensures.ended, length-append read.steps (read.names ∷ []), ap length got.steps);
      timed = moments_pushed l.plan read new c.in-Some.moment l.invariant.timed got.moments got.steps c.in_ok-end_step_at.ensures.ended;
      none = ap (λ (b : Building). b.names) c.in_ok-end_step_at.ensures.ended;
    }

pub returns-clause-steps : goal.returns-clause-steps
returns-clause-steps g c =
    let l = c.loop-at in
    let as_many : length l.plan.moments ≡ length (steps_built l.plan) = omega (arith, l.invariant.timed, length-map l.plan.steps step_of_names) in
    let some : 0 < length (steps_built l.plan) = omega (arith, c.requires.some, l.invariant.three, length-map l.plan.steps step_of_names) in
    sym l.invariant.read ∙ timed_end (timed_built l.plan) (items_view (drop l.at c.args.items.now)) (ap items_view (drop_all l.at c.args.items.now (omega arith)))
    ∙ ap Ok (sym (plan_is_timed l.plan.moments (steps_built l.plan) as_many some))
