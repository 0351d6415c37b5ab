use Rattle.std.specs.Prelude.{Result, Ok, Err, OnOk, option_map}
use Rattle.std.proofs.Common.{[], ◌∷◌, ap, refl, sym, ◌∙◌}
use Rattle.std.proofs.lemmas.Option.{get_or_from_slice_get, slice_get-map}
use Rattle.pddl_linked_task.specs.LinkedTasks.{task_of_files}
use Rattle.pddl_linked_plan.specs.LinkedLaws.{named_step}
use Rattle.pddl_linked_plan.specs.StepFaults.{action_name, action_names}
use Rattle.pddl_linked_plan.specs.StepParts.{lent_step}
use Rattle.pddl_plan.specs.Building.{with_names}
use Rattle.pddl_serial_plans.proofs.AddedNames.{names_then}
use Rattle.pddl_serial_plans.proofs.named.add_names.Goals as goal

on_ok : {T E P Q : Type 0} (r : Result T E) → (P → Q) → OnOk r P → OnOk r Q
on_ok (Ok x) on p = on p
on_ok (Err e) on p = p

pub returns : goal.returns
returns g c =
    let task = task_of_files c.args.task.now in
    let step = named_step task (lent_step c.args.step) in
    let name = get_or_from_slice_get (action_names task) c.args.step.action c.action.result.now.name []
    (slice_get-map action_name task.actions c.args.step.action ∙ ap (option_map action_name) c.action.ensures) in
    let action = c.in_ok-push_name.ensures.added ∙ ap (λ n. with_names c.args.plan.now (n ∷ [])) (sym name) in
    on_ok c.add_objects.result (λ objects. names_then c.args.plan.now c.push_name.new.self c.add_objects.new.plan (step.action ∷ []) step.objects _ action objects refl) c.add_objects.ensures
