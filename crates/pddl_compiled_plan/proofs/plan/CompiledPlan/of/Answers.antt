use Rattle.pddl_compiled_plan.proofs.plan.CompiledPlan.of.Goals as goal

pub invariant_of-result : goal.invariant_of-result
invariant_of-result g c = record { held = ∣ c.requires.held ∣₁; framed = c.requires.framed }
