use Rattle.std.proofs.Common.{◌≡◌, [], ap, ◌∙◌}
use Rattle.std.specs.Prelude.{Ok}
use Rattle.std.proofs.lemmas.Result.{IfOk-weaker, IfOk-at_ok}
use Rattle.pddl_formula.specs.Formulas.{formula_view}
use Rattle.pddl_linked_task.specs.LinkedTasks.{task_of_files}
use Rattle.pddl_compiled.specs.Compiler.{condition_of}
use Rattle.pddl_compiled.specs.TaskTables.{tables_of}
use Rattle.pddl_compiled.specs.Views.{condition_view}
use Rattle.pddl_compiled_plan.specs.CompiledSteps.{AreForms, AreHeld}
use Rattle.pddl_compiled_plan.proofs.Forms.{action_low}
use Rattle.pddl_step.proofs.compiling.compile_parts.Goals as goal

pub used_actions-actions-requires-clause-range : goal.used_actions-actions-requires-clause-range
used_actions-actions-requires-clause-range g c =
    let files = c.args.task.now in
    action_low files.domain files.problem c.requires.files c.args.steps.now c.requires.linked

pub returns : goal.returns
returns g c =
    let task = task_of_files c.args.task.now in
    let actions = c.used_actions-actions in
    let goal = c.compile_closed-goal in
    let made = c.all_made in
    record {
      forms = IfOk-weaker made.result (λ m. actions.result ≡ Ok m.0) (λ m. AreForms task m.0.items) (λ m is. IfOk-at_ok (λ v. AreForms task v.items) is actions.ensures.forms) made.ensures.list;
      used = IfOk-weaker made.result (λ m. actions.result ≡ Ok m.0) (λ m. AreHeld c.args.steps.now m.0.items) (λ m is. IfOk-at_ok (λ v. AreHeld c.args.steps.now v.items) is actions.ensures.used) made.ensures.list;
      goal = IfOk-weaker made.result (λ m. goal.result ≡ Ok m.1) (λ m. condition_view m.1 ≡ condition_of (tables_of task) task.goal [])
          (λ m is. IfOk-at_ok (λ f. condition_view f ≡ condition_of (g.L.Lookups.tables c.args.lookups.now) (formula_view c.goal.result.now) []) is goal.ensures
          ∙ (ap (λ t. condition_of t (formula_view c.goal.result.now) []) c.requires.tables ∙ ap (λ f. condition_of (tables_of task) f []) c.goal.ensures)) made.ensures.first;
      prices = made.ensures.second;
    }
