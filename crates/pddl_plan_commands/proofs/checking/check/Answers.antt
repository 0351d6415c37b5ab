use Rattle.pddl_plan_commands.proofs.checking.check.Goals as goal

pub returns : goal.returns
returns g c = c.run.ensures
