use Rattle.std.proofs.Common.{◌≡◌, ◌<◌, ◌≤◌, ℕ, List, length, sym, ap, ap₂, ◌∙◌, subst}
use Rattle.std.specs.Prelude.{All, IfOk}
use Rattle.pddl_plan.specs.Plans.{plan_view}
use Rattle.pddl_linked_task.specs.LinkedTasks.{task_of_files}
use Rattle.pddl_serial_plans.specs.NewSteps.{picked, at_moments, timed_plan}
use Rattle.pddl_serial_plans.proofs.AddedNames.{if_made}
use Rattle.pddl_serial_plans.proofs.split_plan.timed_plan.Goals as goal

pub add_timed_steps-made-requires-clause-within : goal.add_timed_steps-made-requires-clause-within
add_timed_steps-made-requires-clause-within g c = subst (λ l. All (λ k. k < length c.args.steps.now) l) (sym c.deref.ensures.value) c.requires.within

pub add_timed_steps-made-requires-clause-as_many : goal.add_timed_steps-made-requires-clause-as_many
add_timed_steps-made-requires-clause-as_many g c = ap length c.deref-2.ensures.value ∙ (c.requires.as_many ∙ ap length (sym c.deref.ensures.value))

pub add_timed_steps-made-requires-clause-small : goal.add_timed_steps-made-requires-clause-small
add_timed_steps-made-requires-clause-small g c = subst (λ l. All (λ m. m ≤ 1000000) l) (sym c.deref-2.ensures.value) c.requires.small

pub returns : goal.returns
returns g c =
    let plan_of = λ (order : List ℕ) (moments : List ℕ). timed_plan (task_of_files c.args.task.now) (at_moments (picked c.args.steps.now order) moments) in
    let own = plan_of c.args.new.now.order.items c.args.new.now.moments.items in
    let told = ap₂ plan_of c.deref.ensures.value c.deref-2.ensures.value in
    subst (λ r. IfOk r (λ plan. plan_view plan ≡ own)) (sym c.and.ensures)
    (if_made (λ plan. plan_view plan ≡ own) c.add_timed_steps-made.result c.finish.result _ (λ made. c.finish.ensures ∙ (made ∙ told)) c.add_timed_steps-made.ensures)
