use Rattle.pddl_plan.proofs.LentSteps.{action_is}
use Rattle.pddl_plan.proofs.step.Step.action.Goals as goal

pub returns : goal.returns
returns g c =
    action_is c.self.inside.names.now c.self.inside.start c.self.inside.end c.self.invariant.some c.self.invariant.within c.args.self.now c.self.view_is c.get.result.now c.get.ensures
