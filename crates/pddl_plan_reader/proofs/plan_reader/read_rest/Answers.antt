use Rattle.std.proofs.Common.{◌≡◌, ap, sym, subst, ◌∙◌, map, List, arith}
use Rattle.std.specs.Prelude.{Ok}
use Rattle.pddl_token.specs.Spelling.{PlacedWord, view}
use Rattle.pddl_items.specs.Items.{items_view}
use Rattle.pddl_text.specs.Lists.{AreItems, ListStands}
use Rattle.pddl_plan.specs.Plans.{built_plan}
use Rattle.pddl_step_reader.specs.Inner.PlanReading.{plan_from, Refuses}
use Rattle.pddl_step_reader.proofs.StepsRead.{no_elements}
use Rattle.pddl_plan_reader.proofs.RestRead.{IsReadTo, none_left, list_stands, left_read, rest_spells, rest_stands, ok_with, err_with}
use Rattle.pddl_plan_reader.proofs.plan_reader.read_rest.Goals as goal

pub returns-then-len-eq0-clause-plan : goal.returns-then-len-eq0-clause-plan
returns-then-len-eq0-clause-plan g c = λ text done within spells valued steps.
    let read : IsReadTo c.args.plan.now text done c.args.kept.now = record { within = within; spells = spells; valued = valued; steps = steps } in
    none_left c.args.plan.now text done c.args.kept.now read (no_elements c.args.kept.now (omega (arith, c.if-len-eq0.true, c.len.ensures)))

pub returns-in-Err-clause-fault : goal.returns-in-Err-clause-fault
returns-in-Err-clause-fault g c = λ text done within spells valued steps.
    let read : IsReadTo c.args.plan.now text done c.args.kept.now = record { within = within; spells = spells; valued = valued; steps = steps } in
    let words : map view c.deref.result.now ≡ c.args.kept.now = ap (map view) c.deref.ensures.value ∙ c.in_ok-tokens.ensures in
    list_stands c.args.plan.now text done c.args.kept.now read c.in-Err.fault (subst (ListStands c.in-Err.fault) words c.in-Err.ensures.fault)

pub returns-clause-plan : goal.returns-clause-plan
returns-clause-plan g c = λ text done within spells valued steps.
    let b = c.give_up_step.new.self in
    let read : IsReadTo c.args.plan.now text done c.args.kept.now = record { within = within; spells = spells; valued = valued; steps = steps } in
    let words : map view c.deref.result.now ≡ c.args.kept.now = ap (map view) c.deref.ensures.value ∙ c.in_ok-tokens.ensures in
    let form : AreItems 128 c.args.kept.now (items_view c.in-Ok.items.items) = subst (λ (ws : List PlacedWord). AreItems 128 ws (items_view c.in-Ok.items.items)) words c.in-Ok.ensures.items in
    let left = left_read c.args.plan.now b text done c.args.kept.now c.give_up_step.ensures read in
    ok_with c.add_steps.result
    (λ (is : plan_from b (items_view c.deref-2.result.now) ≡ Ok (built_plan c.add_steps.new.plan)).
    rest_spells b text done c.args.kept.now left (items_view c.in-Ok.items.items) (built_plan c.add_steps.new.plan) form (ap (λ items. plan_from b (items_view items)) (sym c.deref-2.ensures.value) ∙ is))
    c.add_steps.ensures.steps

pub returns-clause-fault : goal.returns-clause-fault
returns-clause-fault g c = λ text done within spells valued steps.
    let b = c.give_up_step.new.self in
    let read : IsReadTo c.args.plan.now text done c.args.kept.now = record { within = within; spells = spells; valued = valued; steps = steps } in
    let words : map view c.deref.result.now ≡ c.args.kept.now = ap (map view) c.deref.ensures.value ∙ c.in_ok-tokens.ensures in
    let form : AreItems 128 c.args.kept.now (items_view c.in-Ok.items.items) = subst (λ (ws : List PlacedWord). AreItems 128 ws (items_view c.in-Ok.items.items)) words c.in-Ok.ensures.items in
    let left = left_read c.args.plan.now b text done c.args.kept.now c.give_up_step.ensures read in
    err_with c.add_steps.result
    (λ fault (refuses : Refuses fault (plan_from b (items_view c.deref-2.result.now))).
    rest_stands b text done c.args.kept.now left (items_view c.in-Ok.items.items) fault form (subst (λ items. Refuses fault (plan_from b (items_view items))) c.deref-2.ensures.value refuses))
    c.add_steps.ensures.refused
