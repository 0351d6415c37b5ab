use Rattle.pddl_commands.proofs.formatting.read_formatted.Goals as goal

pub returns-in-Domain : goal.returns-in-Domain
returns-in-Domain g c = rw c.in-Domain.is c.read_formatted_domain.ensures

pub returns-in-Problem : goal.returns-in-Problem
returns-in-Problem g c = rw c.in-Problem.is c.read_formatted_problem.ensures

pub returns-in-Plan : goal.returns-in-Plan
returns-in-Plan g c = rw c.in-Plan.is c.read_formatted_plan.ensures
