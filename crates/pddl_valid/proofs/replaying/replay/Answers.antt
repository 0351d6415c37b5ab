use Rattle.std.proofs.Common.{◌≤◌, length, sym, subst}
use Rattle.pddl_task.specs.Tasks.{TaskValue, task_of}
use Rattle.pddl_happenings.specs.Happenings.{HaveEachOnce}
use Rattle.pddl_judge.specs.HappeningValues.{groups_of, moments_of}
use Rattle.pddl_linked_plan.proofs.SoundSteps.{steps_are_sound}
use Rattle.pddl_compiled_plan.specs.HeldPlans.{plan_course, plan_goal}
use Rattle.pddl_plan_steps.specs.AcceptedPlans.{AreHappeningsOf}
use Rattle.pddl_valid.proofs.NamedPlans.{IsCourseOf}
use Rattle.pddl_valid.proofs.Replays.{run_replayed}
use Rattle.pddl_valid.proofs.replaying.replay.Goals as goal

pub happenings-requires : goal.happenings-requires
happenings-requires g c =
    let files = c.args.task.now in
    ((steps_are_sound files.domain files.problem c.files_are_linked.ensures c.args.steps.now).0 c.requires).short

pub replay-run-requires-clause-count : goal.replay-run-requires-clause-count
replay-run-requires-clause-count g c =
    let files = c.args.task.now in
    subst (λ l. length l ≤ 1000000) (sym c.in_ok-plan.ensures.steps) ((steps_are_sound files.domain files.problem c.files_are_linked.ensures c.args.steps.now).0 c.requires).short

pub replay-run-requires-clause-each : goal.replay-run-requires-clause-each
replay-run-requires-clause-each g c =
    let same = c.deref.ensures.value in
    subst (λ l. HaveEachOnce (length l) (groups_of c.deref.result.now)) (sym c.in_ok-plan.ensures.steps)
    (subst (λ hs. HaveEachOnce (length c.args.steps.now) (groups_of hs)) (sym same) c.in_ok-groups.ensures.each)

pub returns : goal.returns
returns g c =
    let files = c.args.task.now in
    let task : TaskValue = task_of files.domain files.problem in
    let steps = c.args.steps.now in
    let content = g.S.AtomStore.content in
    let hs = c.deref.result.now in
    let same = c.deref.ensures.value in
    let is = c.replay-run.ensures in
    let run : IsCourseOf files.domain files.problem steps (plan_course c.in_ok-plan.plan) (plan_goal c.in_ok-plan.plan) (content c.initial_state.new.store c.in_ok-start.start) (moments_of hs) (groups_of hs) = record {
      linked = c.files_are_linked.ensures;
      are = c.requires;
      course_is = c.in_ok-plan.ensures.course;
      goal_is = c.in_ok-plan.ensures.goal;
      start_is = c.in_ok-start.ensures.content;
      of = subst (λ v. AreHappeningsOf steps (moments_of v) (groups_of v)) (sym same) c.in_ok-groups.ensures.happenings;
    } in
    run_replayed run c.args.order.now c.replay-run.result c.end_of.result c.end_of.ensures is.not_serial is.serial is.fails is.runs is.rising is.atoms is.cost
