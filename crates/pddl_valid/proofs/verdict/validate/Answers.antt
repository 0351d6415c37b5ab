use Rattle.std.proofs.Common.{◌≤◌, length, sym, subst}
use Rattle.pddl_task.specs.Tasks.{TaskValue, task_of}
use Rattle.pddl_happenings.specs.Serialisations.{Converges}
use Rattle.pddl_judge.specs.HappeningValues.{groups_of, moments_of}
use Rattle.pddl_linked_plan.proofs.SoundSteps.{steps_are_sound}
use Rattle.pddl_compiled_plan.specs.HeldPlans.{plan_course, plan_goal}
use Rattle.pddl_plan_steps.specs.PlanSteps.{named_steps, initial_state}
use Rattle.pddl_plan_steps.specs.AcceptedPlans.{AreHappeningsOf}
use Rattle.pddl_valid.proofs.NamedPlans.{IsCourseOf, accepted, converges, unready, clashes, passes, off_goal, refused}
use Rattle.pddl_valid.proofs.Verdicts.{accepted_so, accepted_both, refused_so, precondition_so, interference_so, goal_so}
use Rattle.pddl_valid.proofs.verdict.validate.Goals as goal

pub happenings-requires : goal.happenings-requires
happenings-requires g c =
    let files = c.args.task.now in
    ((steps_are_sound files.domain files.problem c.files_are_linked.ensures c.args.steps.now).0 c.requires).short

pub judge-verdict-requires-clause-count : goal.judge-verdict-requires-clause-count
judge-verdict-requires-clause-count g c =
    let files = c.args.task.now in
    subst (λ l. length l ≤ 1000000) (sym c.in_ok-plan.ensures.steps) ((steps_are_sound files.domain files.problem c.files_are_linked.ensures c.args.steps.now).0 c.requires).short

pub returns : goal.returns
returns g c =
    let files = c.args.task.now in
    let task : TaskValue = task_of files.domain files.problem in
    let steps = c.args.steps.now in
    let content = g.S.AtomStore.content in
    let hs = c.in_ok-groups.groups.items in
    let r = c.judge-verdict.result in
    let run : IsCourseOf files.domain files.problem steps (plan_course c.in_ok-plan.plan) (plan_goal c.in_ok-plan.plan) (content c.initial_state.new.store c.in_ok-start.start) (moments_of hs) (groups_of hs) = record {
      linked = c.files_are_linked.ensures;
      are = c.requires;
      course_is = c.in_ok-plan.ensures.course;
      goal_is = c.in_ok-plan.ensures.goal;
      start_is = c.in_ok-start.ensures.content;
      of = c.in_ok-groups.ensures.happenings;
    } in
    record {
      end_own = c.judge-verdict.ensures.end_own;
      happenings = accepted_so _ _ (λ a e. subst (λ v. AreHappeningsOf steps (moments_of v.items) (groups_of v.items)) (sym e) c.in_ok-groups.ensures.happenings) r c.judge-verdict.ensures.happenings;
      accepted = accepted_so _ _ (λ a. accepted run (content a.store a.end) a.cost) r c.judge-verdict.ensures.accepted;
      converges = accepted_so _ _ (λ a both. subst (λ v. Converges (named_steps task steps) (initial_state task) (groups_of v.items)) (sym both.0) (converges run (length steps) c.in_ok-groups.ensures.each both.1.fine)) r (accepted_both _ _ r c.judge-verdict.ensures.happenings c.judge-verdict.ensures.accepted);
      precondition = refused_so _ _ (precondition_so _ _ (unready run)) r c.judge-verdict.ensures.precondition;
      interference = refused_so _ _ (interference_so _ _ (clashes run)) r c.judge-verdict.ensures.interference;
      passes = refused_so _ _ (goal_so _ _ (passes run)) r c.judge-verdict.ensures.fine_but_goal;
      goal = refused_so _ _ (goal_so _ _ (off_goal run)) r c.judge-verdict.ensures.goal;
      refused = refused_so _ _ (λ f. refused run) r c.judge-verdict.ensures.refused;
    }
