use Rattle.std.proofs.Common.{rules, ◌≡◌, length, sym, ap₂, ◌∙◌, subst}
use Rattle.std.proofs.lemmas.List.{length-map}
use Rattle.std.proofs.lemmas.Result.{IfOk-weaker}
use Rattle.std.specs.Prelude.{IfOk}
use Rattle.std.specs.Int.NonZero.{non_zero_u32_get}
use Rattle.pddl_happenings.specs.NamedSteps.{by_name}
use Rattle.pddl_judge.specs.HappeningValues.{groups_of}
use Rattle.pddl_linked_task.specs.LinkedTasks.{task_of_files}
use Rattle.pddl_plan_steps.specs.NumberedSteps.{number_of}
use Rattle.pddl_serial.specs.Cuts.{cut_in_order}
use Rattle.pddl_serial.specs.Orders.{in_order}
use Rattle.pddl_serial_plans.specs.NewPlans.{IsSerialPlan, IsSplitPlan}
use Rattle.pddl_plan.specs.Plans.{plan_view}
use Rattle.pddl_plan_lines.specs.PlanLines.{valid_line}
use Rattle.pddl_plan_commands.specs.Inner.WantedPrintings.{printing_of}
use Rattle.pddl_plan_commands.proofs.NewTexts.{text_of_made}
use Rattle.pddl_plan_commands.proofs.accepted.accepted_text.Goals as goal

pub returns-in-Verdict : goal.returns-in-Verdict
returns-in-Verdict g c =
    let task = task_of_files c.args.task.now in
    let accepted = c.args.accepted.now in
    let groups = groups_of accepted.happenings.items in
    let end = by_name (number_of task) (g.S.AtomStore.content accepted.store accepted.end) in
    let steps : c.len.result ≡ length c.args.steps.now = search rules in
    let items : c.len-happenings.result ≡ length c.args.accepted.now.happenings.items = search rules in
    let happenings = items ∙ sym (length-map accepted.happenings.items (λ h. h.steps)) in
    IfOk-weaker c.valid_line.result _ _
    (λ line is. subst (λ wanted. printing_of wanted task c.args.steps.now groups end accepted.cost line.items) (sym c.in-Verdict.is)
    (is ∙ ap₂ (λ m n. valid_line m n accepted.cost) steps happenings)) c.valid_line.ensures

pub returns-in-Serial : goal.returns-in-Serial
returns-in-Serial g c =
    let task = task_of_files c.args.task.now in
    let accepted = c.args.accepted.now in
    let groups = groups_of accepted.happenings.items in
    let end = by_name (number_of task) (g.S.AtomStore.content accepted.store accepted.end) in
    let steps = c.args.steps.now in
    let text = text_of_made plan_view (λ text. text.items) (IsSerialPlan task steps (in_order c.in-Serial.order groups) end accepted.cost) c.serialise.result c.text_of.result c.text_of.ensures c.serialise.ensures in
    subst (λ wanted. IfOk c.text_of.result (λ text. printing_of wanted task steps groups end accepted.cost text.items)) (sym c.in-Serial.is) text

pub returns-in-Groups : goal.returns-in-Groups
returns-in-Groups g c =
    let task = task_of_files c.args.task.now in
    let accepted = c.args.accepted.now in
    let groups = groups_of accepted.happenings.items in
    let end = by_name (number_of task) (g.S.AtomStore.content accepted.store accepted.end) in
    let steps = c.args.steps.now in
    let order = c.in-Groups.order in
    let made =
    subst (λ size. IfOk c.split_in_groups.result (λ plan. IsSplitPlan task steps (cut_in_order size order groups) end accepted.cost (plan_view plan))) c.get-size.ensures.value c.split_in_groups.ensures in
    let text =
    text_of_made plan_view (λ text. text.items) (IsSplitPlan task steps (cut_in_order (non_zero_u32_get c.in-Groups.size) order groups) end accepted.cost) c.split_in_groups.result c.text_of-in-Groups.result
    c.text_of-in-Groups.ensures made in
    subst (λ wanted. IfOk c.text_of-in-Groups.result (λ text. printing_of wanted task steps groups end accepted.cost text.items)) (sym c.in-Groups.is) text
