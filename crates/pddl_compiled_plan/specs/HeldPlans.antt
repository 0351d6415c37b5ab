-- What is held of a plan: its steps, what they do, and its goal.
use Rattle.std.specs.Prelude.{ℕ, Bool, List}
use Rattle.pddl_state.specs.Atoms.{AtomValue}
use Rattle.pddl_happenings.specs.Steps.{Step}
use Rattle.pddl_tables.specs.Lookups.{price_in}
use Rattle.pddl_linked_plan.specs.LinkedSteps.{LinkedStepValue}
use Rattle.pddl_compiled_plan.specs.CompiledSteps.{held_steps, held_goal}
use Rattle.pddl_compiled_plan.specs.declared.plan.CompiledPlan.{CompiledPlan}

abbrev pub plan_steps : {C D : _} → CompiledPlan C D → List LinkedStepValue
plan_steps p = p.steps.now

abbrev pub plan_course : {C D : _} → CompiledPlan C D → ℕ → Step AtomValue
plan_course p = held_steps p.actions.items (price_in p.prices) p.steps.now

abbrev pub plan_goal : {C D : _} → CompiledPlan C D → (AtomValue → Bool) → Bool
plan_goal p = held_goal p.goal
