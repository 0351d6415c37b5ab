use Rattle.std.proofs.Common.{◌≡◌, ◌<◌, ◌≤◌, List, ℕ, map, length, sym, ap, ap₂, ◌∙◌, subst}
use Rattle.std.specs.Prelude.{All, IfOk, IfSome, MatchOption}
use Rattle.std.specs.List.{concat}
use Rattle.std.proofs.lemmas.Result.{IfOk-weaker}
use Rattle.pddl_plan.specs.Plans.{PlanValue, plan_view}
use Rattle.pddl_happenings.specs.Happenings.{HaveEachOnce}
use Rattle.pddl_happenings.specs.NamedSteps.{by_name}
use Rattle.pddl_happenings.specs.Splits.{IsSplitOf, split_moments}
use Rattle.pddl_judge.specs.HappeningValues.{groups_of}
use Rattle.pddl_linked_task.specs.LinkedTasks.{task_of_files}
use Rattle.pddl_plan_steps.specs.NumberedSteps.{number_of}
use Rattle.pddl_serial_plans.specs.NewPlans.{IsSplitPlan}
use Rattle.pddl_serial_plans.specs.NewSteps.{picked, at_moments, timed_plan}
use Rattle.pddl_serial_plans.proofs.NewPlans.{each_once, within, small, as_many_moments, split_accepted}
use Rattle.pddl_serial_plans.proofs.split_plan.split.Goals as goal

pub split-requires : goal.split-requires
split-requires g c =
    let files = c.args.task.now in
    let hs = ap groups_of c.deref.ensures.value in
    subst (λ n. HaveEachOnce n (groups_of c.deref.result.now)) (sym c.len.ensures)
    (subst (λ gs. HaveEachOnce (length c.args.steps.now) gs) (sym hs) (each_once files.domain files.problem c.domain-linked.ensures.linked c.requires))

pub timed_plan-plan-requires-clause-within : goal.timed_plan-plan-requires-clause-within
timed_plan-plan-requires-clause-within g c =
    let files = c.args.task.now in
    let groups = map (λ h. h.items) c.args.groups.now in
    let order = subst (λ o. IfSome o (λ new. new.order.items ≡ concat groups)) c.in-Some.is c.in_ok-new.ensures.order in
    let Splits = λ (gs : List (List ℕ)). IsSplitOf gs groups in
    let split = subst Splits (ap groups_of c.deref.ensures.value)
    (subst (λ o. MatchOption o (Splits (groups_of c.deref.result.now) → ⊥) (λ new. Splits (groups_of c.deref.result.now))) c.in-Some.is c.in_ok-new.ensures.split) in
    subst (λ l. All (λ k. k < length c.args.steps.now) l) (sym order) (within files.domain files.problem c.domain-linked.ensures.linked c.requires (concat groups) split.in_turn.each_once)

pub timed_plan-plan-requires-clause-as_many : goal.timed_plan-plan-requires-clause-as_many
timed_plan-plan-requires-clause-as_many g c =
    let groups = map (λ h. h.items) c.args.groups.now in
    let order = subst (λ o. IfSome o (λ new. new.order.items ≡ concat groups)) c.in-Some.is c.in_ok-new.ensures.order in
    let moments = subst (λ o. IfSome o (λ new. new.moments.items ≡ split_moments 1 groups)) c.in-Some.is c.in_ok-new.ensures.moments in
    ap length moments ∙ (as_many_moments 1 groups ∙ ap length (sym order))

pub timed_plan-plan-requires-clause-small : goal.timed_plan-plan-requires-clause-small
timed_plan-plan-requires-clause-small g c =
    let files = c.args.task.now in
    let moments = c.in-Some.new.moments.items in
    let early = subst (λ o. IfSome o (λ new. All (λ m. (1 ≤ m) × (m ≤ c.len.result)) new.moments.items)) c.in-Some.is c.in_ok-new.ensures.within in
    small files.domain files.problem c.domain-linked.ensures.linked c.requires moments (subst (λ n. All (λ m. (1 ≤ m) × (m ≤ n)) moments) c.len.ensures early)

pub returns-in-Some : goal.returns-in-Some
returns-in-Some g c =
    let files = c.args.task.now in
    let task = task_of_files c.args.task.now in
    let steps = c.args.steps.now in
    let groups = map (λ h. h.items) c.args.groups.now in
    let end = by_name (number_of task) (g.S.AtomStore.content c.args.accepted.now.store c.args.accepted.now.end) in
    let order = subst (λ o. IfSome o (λ new. new.order.items ≡ concat groups)) c.in-Some.is c.in_ok-new.ensures.order in
    let moments = subst (λ o. IfSome o (λ new. new.moments.items ≡ split_moments 1 groups)) c.in-Some.is c.in_ok-new.ensures.moments in
    let Splits = λ (gs : List (List ℕ)). IsSplitOf gs groups in
    let split = subst Splits (ap groups_of c.deref.ensures.value)
    (subst (λ o. MatchOption o (Splits (groups_of c.deref.result.now) → ⊥) (λ new. Splits (groups_of c.deref.result.now))) c.in-Some.is c.in_ok-new.ensures.split) in
    let plan_of = λ (o : List ℕ) (m : List ℕ). timed_plan task (at_moments (picked steps o) m) in
    let own = plan_of c.in-Some.new.order.items c.in-Some.new.moments.items in
    let accepted = split_accepted files.domain files.problem c.domain-linked.ensures.linked c.requires groups split in
    record {
      no_split = λ is. absurd (c.or_memory.ensures.memory is);
      split = IfOk-weaker c.or_memory.result _ _ (λ plan is. split) c.or_memory.ensures.made;
      plan = IfOk-weaker c.or_memory.result _ _
          (λ plan is. subst (λ (p : PlanValue). IsSplitPlan task steps groups end c.args.accepted.now.cost p)
          (sym (subst (λ r. IfOk r (λ made. plan_view made ≡ own)) is c.timed_plan-plan.ensures ∙ ap₂ plan_of order moments)) accepted) c.or_memory.ensures.made;
    }

pub returns-in-None : goal.returns-in-None
returns-in-None g c =
    let Splits = λ (gs : List (List ℕ)). IsSplitOf gs (map (λ h. h.items) c.args.groups.now) in
    let none = subst (λ o. MatchOption o (Splits (groups_of c.deref.result.now) → ⊥) (λ new. Splits (groups_of c.deref.result.now))) c.in-None.is c.in_ok-new.ensures.split in
    record {
      no_split = λ is split. none (subst Splits (sym (ap groups_of c.deref.ensures.value)) split);
      split = tt;
      plan = tt;
    }
