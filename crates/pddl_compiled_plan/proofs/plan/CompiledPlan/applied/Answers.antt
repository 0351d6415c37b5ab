use Rattle.std.proofs.Common.{sym, ap, ◌∙◌, arith}
use Rattle.std.specs.Option.{option_copied}
use Rattle.pddl_linked_plan.specs.StepParts.{lent_step}
use Rattle.pddl_tables.specs.Lookups.{price_in}
use Rattle.pddl_compiled_plan.proofs.HeldSteps.{action_within, action_there, action_does, action_increases}
use Rattle.pddl_compiled_plan.proofs.plan.CompiledPlan.applied.Goals as goal

pub index-requires : goal.index-requires
index-requires g c =
    let plan = c.args.self.now in
    omega (arith, plan.actions.ok.0, action_within plan.held c.args.step (lent_step c.step-own.result) c.step-own.ensures)

pub unwrap-requires : goal.unwrap-requires
unwrap-requires g c =
    c.as_ref.ensures.variant ∙ action_there c.args.self.now.held c.args.step (lent_step c.step-own.result) c.step-own.ensures c.index.result.now c.index.ensures

pub returns-clause-step : goal.returns-clause-step
returns-clause-step g c =
    action_does c.args.self.now.held c.args.step (lent_step c.step-own.result) c.step-own.ensures c.index.result.now c.index.ensures
    c.unwrap.result.now (sym c.as_ref.ensures.value ∙ ap option_copied c.unwrap.ensures) (price_in c.args.self.now.prices)

pub returns-clause-few : goal.returns-clause-few
returns-clause-few g c =
    action_increases c.args.self.now.held c.args.step (lent_step c.step-own.result) c.step-own.ensures c.index.result.now c.index.ensures
    c.unwrap.result.now (sym c.as_ref.ensures.value ∙ ap option_copied c.unwrap.ensures)
