use Rattle.std.proofs.Common.{[], ◌∷◌, ◌++◌, map, take, refl, sym, ap, ◌∙◌}
use Rattle.std.proofs.lemmas.List.{map_more, take_all}
use Rattle.pddl_task.specs.Tasks.{object_names}
use Rattle.pddl_linked_task.specs.LinkedTasks.{task_of_files}
use Rattle.pddl_linked_plan.specs.LinkedLaws.{name_at}
use Rattle.pddl_plan.specs.Building.{with_names}
use Rattle.pddl_serial_plans.proofs.AddedNames.{no_names, names_then}
use Rattle.pddl_serial_plans.proofs.named.add_objects.Goals as goal

pub loop-number-init : goal.loop-number-init
loop-number-init g c = no_names c.args.plan.now _ refl

pub loop-number-preserved : goal.loop-number-preserved
loop-number-preserved g c =
    let l = c.loop-number in
    let name = name_at (object_names (task_of_files c.args.task.now)) in
    names_then c.args.plan.now l.plan c.push_name.new.self (map name (take l.number-index c.args.numbers.now)) (c.object_name.result.now ∷ []) _ l.invariant c.in_ok-push_name.ensures.added
    (map_more name c.args.numbers.now l.number-index 0 c.loop-number-test.true
    ∙ ap (λ n. map name (take l.number-index c.args.numbers.now) ++ n ∷ []) (sym c.object_name.ensures))

pub returns : goal.returns
returns g c =
    let l = c.loop-number in
    l.invariant ∙ ap (λ ns. with_names c.args.plan.now (map (name_at (object_names (task_of_files c.args.task.now))) ns)) (take_all l.number-index c.args.numbers.now c.loop-number-test.false)
