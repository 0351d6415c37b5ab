use Rattle.pddl_plan_commands.proofs.serial_forms.serial.Goals as goal

pub returns : goal.returns
returns g c = c.run.ensures
