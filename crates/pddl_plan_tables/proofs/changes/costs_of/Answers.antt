use Rattle.std.proofs.Common.{sym, ap, ◌∙◌}
use Rattle.pddl_domain.specs.Actions.{action_view}
use Rattle.pddl_compiled.specs.Compiled.{both}
use Rattle.pddl_compiled.specs.TaskTables.{tables_of}
use Rattle.pddl_compiled.specs.Views.{changes_view}
use Rattle.pddl_compiled.proofs.Rows.{view_both}
use Rattle.pddl_linked_task.specs.LinkedTasks.{task_of_files}
use Rattle.pddl_plan_tables.specs.ActionChanges.{scope_of}
use Rattle.pddl_plan_tables.specs.ChangeCosts.{some_cost}
use Rattle.pddl_plan_tables.proofs.NoCosts.{none_to_find}
use Rattle.pddl_plan_tables.proofs.changes.costs_of.Goals as goal

pub returns-else-has_function : goal.returns-else-has_function
returns-else-has_function g c = λ test env.
    let a = action_view c.args.action.now in
    ap (λ v. some_cost v test env) (view_both c.new.result ∙ ap (λ xs. both (changes_view xs)) c.new.ensures.items)
    ∙ none_to_find (tables_of (task_of_files c.args.task.now)) a.effect (scope_of a) (sym c.has_function.ensures ∙ c.if-has_function.false) test env
