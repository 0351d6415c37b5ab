use Rattle.std.proofs.Common.{◌≡◌, List, ℕ, map, sym, ap, ◌∙◌, subst}
use Rattle.std.specs.Prelude.{IfOk}
use Rattle.std.proofs.lemmas.Result.{IfOk-weaker}
use Rattle.pddl_plan.specs.Plans.{plan_view}
use Rattle.pddl_happenings.specs.NamedSteps.{by_name}
use Rattle.pddl_happenings.specs.Splits.{IsSplitOf}
use Rattle.pddl_judge.specs.HappeningValues.{groups_of}
use Rattle.pddl_linked_task.specs.LinkedTasks.{task_of_files}
use Rattle.pddl_plan_steps.specs.NumberedSteps.{number_of}
use Rattle.pddl_serial.specs.Cuts.{cut_in_order}
use Rattle.pddl_serial_plans.specs.NewPlans.{IsSplitPlan}
use Rattle.pddl_serial_plans.proofs.NewPlans.{cuts}
use Rattle.pddl_serial_plans.proofs.split_plan.split_in_groups.Goals as goal

pub of_a_split-requires : goal.of_a_split-requires
of_a_split-requires g c failed =
    let files = c.args.task.now in
    let gs = groups_of c.args.accepted.now.happenings.items in
    let cut : map (λ h. h.items) c.deref-2.result.now ≡ cut_in_order c.args.size c.args.order gs =
    ap (map (λ h. h.items)) c.deref-2.ensures.value ∙ (c.in_ok-groups.ensures ∙ ap (λ hs. cut_in_order c.args.size c.args.order (groups_of hs)) c.deref.ensures.value) in
    c.split-plan.ensures.no_split failed
    (subst (λ l. IsSplitOf gs l) (sym cut) (cuts files.domain files.problem c.domain-linked.ensures.linked c.requires.accepted c.args.size c.args.order c.requires.size))

pub returns : goal.returns
returns g c =
    let task = task_of_files c.args.task.now in
    let end = by_name (number_of task) (g.S.AtomStore.content c.args.accepted.now.store c.args.accepted.now.end) in
    let cut : map (λ h. h.items) c.deref-2.result.now ≡ cut_in_order c.args.size c.args.order (groups_of c.args.accepted.now.happenings.items) =
    ap (map (λ h. h.items)) c.deref-2.ensures.value ∙ (c.in_ok-groups.ensures ∙ ap (λ hs. cut_in_order c.args.size c.args.order (groups_of hs)) c.deref.ensures.value) in
    IfOk-weaker c.of_a_split.result _ _
    (λ plan is. subst (λ (l : List (List ℕ)). IsSplitPlan task c.args.steps.now l end c.args.accepted.now.cost (plan_view plan)) cut
    (subst (λ r. IfOk r (λ made. IsSplitPlan task c.args.steps.now (map (λ h. h.items) c.deref-2.result.now) end c.args.accepted.now.cost (plan_view made))) is c.split-plan.ensures.plan)) c.of_a_split.ensures
