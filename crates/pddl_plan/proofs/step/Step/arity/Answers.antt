use Rattle.std.proofs.Common.{arith}
use Rattle.pddl_plan.proofs.LentSteps.{count_is}
use Rattle.pddl_plan.proofs.step.Step.arity.Goals as goal

pub returns : goal.returns
returns g c =
    omega (arith, c.self.invariant.some, count_is c.self.inside.names.now c.self.inside.start c.self.inside.end c.self.invariant.some c.self.invariant.within c.args.self.now c.self.view_is)
