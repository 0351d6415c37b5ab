use Rattle.std.proofs.Common.{◌<◌, [], ◌∷◌, ◌++◌, length, drop, sym, ap, ◌∙◌, refl, arith}
use Rattle.std.specs.Prelude.{Ok, nat_lt}
use Rattle.std.proofs.lemmas.List.{drop_all}
use Rattle.pddl_items.specs.Items.{item_view, items_view}
use Rattle.pddl_plan.specs.Building.{Building}
use Rattle.pddl_plan.specs.Plans.{plan_of, steps_built}
use Rattle.pddl_step_reader.specs.Inner.PlanReading.{step_at, plain_fault}
use Rattle.pddl_step_reader.proofs.BuiltSteps.{plain_pushed, steps_behind}
use Rattle.pddl_step_reader.proofs.PlanSteps.{plain_on, plain_stop, plain_end, got_step, no_step_added, step_got, some_got}
use Rattle.pddl_step_reader.proofs.plan_items.add_plain_steps.Goals as goal

pub loop-index-init : goal.loop-index-init
loop-index-init g c = record { read = refl; plain = c.requires.plain; none = c.requires.none }

pub returns-then-not-branch-clause-refused : goal.returns-then-not-branch-clause-refused
returns-then-not-branch-clause-refused g c =
    let l = c.loop-index in
    let lt : l.index < length c.args.items.now = omega arith in
    let adds = c.in_ok-add_step.ensures in
    let none = no_step_added c.in_ok-add_step.field-0 _ l.plan c.add_step.new.plan c.if-not-branch.true adds ∙ ap (λ item. step_at (item_view item)) c.index-items-index.is in
    plain_stop c.args.items.now l.index c.index-items-index.result (steps_built l.plan) _ c.in_ok-plain_fault.field-0 _ lt l.invariant.read none
    (steps_behind l.plan.steps c.len-behind.result _ (c.len-behind.ensures.value ∙ ap length adds.steps) refl)
    (c.in_ok-plain_fault.ensures ∙ ap (λ items. plain_fault (nat_lt 0 c.len-behind.result) (items_view items)) c.split_at.ensures.back)

pub end_step-requires-clause-named : goal.end_step-requires-clause-named
end_step-requires-clause-named g c =
    let l = c.loop-index in
    some_got (got_step c.in_ok-add_step.field-0 _ l.plan c.add_step.new.plan c.if-not-branch.false c.in_ok-add_step.ensures)

pub end_step-requires-clause-plain : goal.end_step-requires-clause-plain
end_step-requires-clause-plain g c = c.in_ok-add_step.ensures.moments ∙ c.loop-index.invariant.plain

pub loop-index-preserved : goal.loop-index-preserved
loop-index-preserved g c =
    let l = c.loop-index in
    let lt : l.index < length c.args.items.now = omega arith in
    let read = c.add_step.new.plan in
    let new = c.end_step.new.self in
    let got = got_step c.in_ok-add_step.field-0 _ l.plan read c.if-not-branch.false c.in_ok-add_step.ensures in
    let some = got.some ∙ ap (λ item. step_at (item_view item)) c.index-items-index.is in
    record {
      read = plain_on c.args.items.now l.index c.index-items-index.result (steps_built l.plan) (steps_built new) got.step _ lt l.invariant.read some
          (plain_pushed l.plan read new got.steps c.in_ok-end_step.ensures.ended ∙ ap (λ step. steps_built l.plan ++ step ∷ []) (step_got l.invariant.none got));
      plain = ap (λ (b : Building). b.moments) c.in_ok-end_step.ensures.ended ∙ got.moments ∙ l.invariant.plain;
      none = ap (λ (b : Building). b.names) c.in_ok-end_step.ensures.ended;
    }

pub returns-clause-steps : goal.returns-clause-steps
returns-clause-steps g c =
    let l = c.loop-index in
    sym l.invariant.read ∙ plain_end (steps_built l.plan) (items_view (drop l.index c.args.items.now)) (ap items_view (drop_all l.index c.args.items.now (omega arith)))
    ∙ ap (λ ms. Ok (plan_of ms (steps_built l.plan))) (sym l.invariant.plain)
