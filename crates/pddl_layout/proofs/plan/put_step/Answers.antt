use Rattle.std.proofs.lemmas.Result.{err_from_is_err_and}
use Rattle.pddl_plan.specs.Plans.{plan_view}
use Rattle.pddl_layout.specs.PlanLayout.{plain_line}
use Rattle.pddl_layout.specs.Inner.PlanLines.{moment_text}
use Rattle.pddl_layout.proofs.PlanLines.{line_is, line_begins}
use Rattle.pddl_layout.proofs.Printed.{prints_as, prints_on, stops_as, stops_more}
use Rattle.pddl_layout.proofs.plan.put_step.Goals as goal

pub returns-in_err-put_moment : goal.returns-in_err-put_moment
returns-in_err-put_moment g c =
    let begun = line_begins (plan_view c.args.plan.now) c.args.number c.moment.result c.requires c.moment.ensures in
    let p = err_from_is_err_and c.from_residual.result c.from_residual.ensures.1 in
    rw p.1 (stops_as _ _ _ _ _ _ begun.1 (stops_more _ _ _ _ (moment_text c.moment.result) (plain_line begun.0) c.in_err-put_moment.ensures))

pub returns : goal.returns
returns g c =
    prints_as _ _ _ _ _ _ c.put_plain.result (line_is (plan_view c.args.plan.now) c.args.number c.step.result c.moment.result c.step.ensures c.moment.ensures)
    (prints_on _ _ _ _ _ _ (moment_text c.moment.result) (plain_line c.step.result) c.put_plain.result c.in_ok-put_moment.ensures c.put_plain.ensures)
