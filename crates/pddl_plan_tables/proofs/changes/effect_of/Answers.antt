use Rattle.std.proofs.Common.{◌≡◌, [], ◌++◌, map, reverse, subst, ap, ◌∙◌, IfOk, append-nil}
use Rattle.pddl_formula.specs.TypedLists.{typed_view}
use Rattle.pddl_domain.specs.Actions.{action_view}
use Rattle.pddl_compiled.specs.Compiler.{ScopeValue, change_of}
use Rattle.pddl_compiled.specs.Frames.{parameter_slot}
use Rattle.pddl_compiled.specs.Scopes.{slot_view}
use Rattle.pddl_compiled.specs.TaskTables.{tables_of}
use Rattle.pddl_compiled.specs.Views.{change_view}
use Rattle.pddl_linked_task.specs.LinkedTasks.{Files, task_of_files}
use Rattle.pddl_plan_tables.specs.ActionChanges.{effect_of}
use Rattle.pddl_plan_tables.proofs.changes.effect_of.Goals as goal

pub returns : goal.returns
returns g c =
    let a = action_view c.args.action.now in
    subst (λ (f : Files). IfOk c.compile_change.result (λ change. change_view change ≡ effect_of (task_of_files f) a)) c.of.ensures
    (subst (λ (s : ScopeValue). IfOk c.compile_change.result (λ change. change_view change ≡ change_of (tables_of (task_of_files c.of.result)) a.effect s))
    (ap (λ ss. map slot_view ss ++ []) c.deref-2.ensures.value ∙ append-nil (map slot_view c.in_ok-slots.slots.items) ∙ c.in_ok-slots.ensures
    ∙ ap (λ ps. reverse (map parameter_slot (map typed_view ps))) c.deref.ensures.value)
    c.compile_change.ensures)
