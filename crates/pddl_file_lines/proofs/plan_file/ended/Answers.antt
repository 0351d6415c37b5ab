use Rattle.pddl_file_lines.proofs.plan_file.ended.Goals as goal

pub returns-in-Ok : goal.returns-in-Ok
returns-in-Ok g c = λ text is. c.in-Ok.ensures.plan text is.0

pub returns : goal.returns
returns g c = λ text is. c.refused_plan.ensures text is.1 (c.in-Err.ensures.fault text is.0)
