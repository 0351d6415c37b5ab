use Rattle.std.proofs.Common.{◌≡◌, ◌<◌, length, sym, ap, ◌∙◌, subst}
use Rattle.std.specs.Prelude.{All, IfOk}
use Rattle.pddl_plan.specs.Plans.{PlanValue, plan_view}
use Rattle.pddl_happenings.specs.NamedSteps.{by_name}
use Rattle.pddl_judge.specs.HappeningValues.{groups_of}
use Rattle.pddl_linked_task.specs.LinkedTasks.{task_of_files}
use Rattle.pddl_plan_steps.specs.NumberedSteps.{number_of}
use Rattle.pddl_serial.specs.Orders.{in_order}
use Rattle.pddl_serial_plans.specs.NewPlans.{IsSerialPlan}
use Rattle.pddl_serial_plans.specs.NewSteps.{picked, plain_plan}
use Rattle.pddl_serial_plans.proofs.AddedNames.{if_made}
use Rattle.pddl_serial_plans.proofs.NewPlans.{within, turns, serial_accepted}
use Rattle.pddl_serial_plans.proofs.serial_plan.serialise.Goals as goal

pub add_steps-made-requires-clause-within : goal.add_steps-made-requires-clause-within
add_steps-made-requires-clause-within g c =
    let files = c.args.task.now in
    let gs = groups_of c.args.accepted.now.happenings.items in
    let same : c.deref-2.result.now ≡ in_order c.args.order gs =
    c.deref-2.ensures.value ∙ (c.in_ok-order.ensures ∙ ap (λ hs. in_order c.args.order (groups_of hs)) c.deref.ensures.value) in
    let is = turns files.domain files.problem c.domain-linked.ensures.linked c.requires c.args.order in
    subst (λ l. All (λ k. k < length c.args.steps.now) l) (sym same) (within files.domain files.problem c.domain-linked.ensures.linked c.requires (in_order c.args.order gs) is.each_once)

pub returns : goal.returns
returns g c =
    let files = c.args.task.now in
    let task = task_of_files c.args.task.now in
    let steps = c.args.steps.now in
    let gs = groups_of c.args.accepted.now.happenings.items in
    let order = in_order c.args.order gs in
    let end = by_name (number_of task) (g.S.AtomStore.content c.args.accepted.now.store c.args.accepted.now.end) in
    let same : c.deref-2.result.now ≡ in_order c.args.order gs =
    c.deref-2.ensures.value ∙ (c.in_ok-order.ensures ∙ ap (λ hs. in_order c.args.order (groups_of hs)) c.deref.ensures.value) in
    let is = turns files.domain files.problem c.domain-linked.ensures.linked c.requires c.args.order in
    let made = c.add_steps-made.result in
    let accepted = serial_accepted files.domain files.problem c.domain-linked.ensures.linked c.requires order is in
    subst (λ r. IfOk r (λ plan. IsSerialPlan task steps order end c.args.accepted.now.cost (plan_view plan))) (sym c.and.ensures)
    (if_made (λ plan. IsSerialPlan task steps order end c.args.accepted.now.cost (plan_view plan)) made c.finish.result _
    (λ own. subst (λ (p : PlanValue). IsSerialPlan task steps order end c.args.accepted.now.cost p) (sym (c.finish.ensures ∙ own ∙ ap (λ l. plain_plan task (picked steps l)) same)) accepted) c.add_steps-made.ensures)
