use Rattle.std.proofs.Common.{List, refl, subst, sym}
use Rattle.pddl_happenings.specs.Accepted.{IsAcceptedRun}
use Rattle.pddl_happenings.specs.Happenings.{HaveEachOnce}
use Rattle.pddl_happenings.proofs.ListedOnce.{is_distinct}
use Rattle.pddl_happenings.proofs.NewPlans.{converge}
use Rattle.pddl_judge.specs.HappeningValues.{HappeningValue, groups_of}
use Rattle.pddl_judge.specs.Stages.{IsRefusedBy}
use Rattle.pddl_judge.proofs.Refusals.{not_accepted, by_precondition, by_interference, by_goal}
use Rattle.pddl_judge.proofs.verdict.judge.Goals as goal

pub run-requires : goal.run-requires
run-requires g c = record {
  count = c.requires.count;
  each = subst (λ (l : List HappeningValue). HaveEachOnce (g.P.Course.count_of c.args.course.now) (groups_of l)) (sym c.deref.ensures.value) c.requires.each;
  own = c.requires.own;
}

pub returns-in-Ok : goal.returns-in-Ok
returns-in-Ok g c =
    let p = g.P.Course.steps_of c.args.course.now in
    let start = g.S.AtomStore.content c.args.store c.args.state in
    let hs = groups_of c.args.happenings.items in
    let run : IsAcceptedRun p (g.P.Course.goal_of c.args.course.now) start hs (g.S.AtomStore.content c.run.new.store c.run.new.state) c.in-Ok.cost = subst (λ (l : List HappeningValue). IsAcceptedRun p (g.P.Course.goal_of c.args.course.now) start (groups_of l) (g.S.AtomStore.content c.run.new.store c.run.new.state) c.in-Ok.cost) c.deref.ensures.value (rw c.in-Ok.is at c.in_ok-cost.ensures.accepted) in
    record {
      end_own = rw c.in-Ok.is at c.in_ok-cost.ensures.own;
      happenings = refl;
      accepted = run;
      converges = converge p (g.met.P.Course.framed c.args.course.now) start hs (is_distinct (g.P.Course.count_of c.args.course.now) hs c.requires.each) run.fine;
      precondition = tt;
      interference = tt;
      fine_but_goal = tt;
      goal = tt;
      refused = tt;
    }

pub returns-in-Err : goal.returns-in-Err
returns-in-Err g c =
    let p = g.P.Course.steps_of c.args.course.now in
    let holds = g.P.Course.goal_of c.args.course.now in
    let start = g.S.AtomStore.content c.args.store c.args.state in
    let hs = groups_of c.args.happenings.items in
    let r = c.in-Err.refusal in
    let by : IsRefusedBy p holds start hs r = subst (λ (l : List HappeningValue). IsRefusedBy p holds start (groups_of l) r) c.deref.ensures.value (rw c.in-Err.is at c.in_ok-cost.ensures.refused) in
    record {
      end_own = tt;
      happenings = tt;
      accepted = tt;
      converges = tt;
      precondition = by_precondition p holds start hs r by;
      interference = by_interference p holds start hs r by;
      fine_but_goal = by_goal p holds start hs (λ w. w.0) r by;
      goal = by_goal p holds start hs (λ w. w.1) r by;
      refused = not_accepted p holds start hs (g.P.Course.count_of c.args.course.now) c.requires.each r by;
    }
