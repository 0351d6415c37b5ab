use Rattle.std.proofs.Common.{◌≡◌, ◌∙◌}
use Rattle.std.proofs.lemmas.Result.{IfOk-at_ok}
use Rattle.pddl_state.specs.Atoms.{AtomValue}
use Rattle.pddl_linked_task.specs.LinkedTasks.{task_of_files}
use Rattle.pddl_tables.specs.Lookups.{price_in}
use Rattle.pddl_tables.specs.Prices.{price_at}
use Rattle.pddl_compiled_plan.specs.CompiledSteps.{AreCompiledFrom}
use Rattle.pddl_compiled_plan.proofs.CompiledPlans.{steps_do, goal_means, held_for, framed}
use Rattle.pddl_step.proofs.compiling.compile_plan.Goals as goal

-- what was compiled is of the task and of the steps
plan_of : (g : _) (c : goal.In_ok-actions g) → AreCompiledFrom (task_of_files c.args.task.now) c.args.steps.now c.in_ok-actions.actions.items c.in_ok-actions.goal (price_in c.in_ok-actions.prices)
plan_of g c =
    let parts = c.in_ok-actions.ensures in
    record {
      linked = c.requires;
      forms = parts.forms;
      used = parts.used;
      goal_is = parts.goal;
      prices_are = IfOk-at_ok (λ p. (x : AtomValue) → price_in p x ≡ price_at (task_of_files c.args.task.now) x) parts.prices c.task_prices-prices.ensures;
    }

pub of-requires-clause-held : goal.of-requires-clause-held
of-requires-clause-held g c = held_for c.args.task.now c.files_are_linked.ensures (plan_of g c)

pub of-requires-clause-framed : goal.of-requires-clause-framed
of-requires-clause-framed g c = framed c.args.task.now c.files_are_linked.ensures (plan_of g c)

pub returns-clause-course : goal.returns-clause-course
returns-clause-course g c = c.of.ensures.course ∙ steps_do c.args.task.now c.files_are_linked.ensures (plan_of g c.before)

pub returns-clause-goal : goal.returns-clause-goal
returns-clause-goal g c = c.of.ensures.goal ∙ goal_means c.args.task.now c.files_are_linked.ensures (plan_of g c.before)
