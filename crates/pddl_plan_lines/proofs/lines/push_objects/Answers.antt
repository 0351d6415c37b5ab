use Rattle.std.proofs.Common.{ℕ, ◌<◌, ◌∙◌, ◌++◌, length, ap, map}
use Rattle.std.proofs.lemmas.List.{take_all}
use Rattle.std.proofs.lemmas.List.Elements.{All-get_or, All-from_recursion}
use Rattle.pddl_layout.specs.PlanLayout.{spaced}
use Rattle.pddl_linked_task.specs.LinkedTasks.{task_of_files}
use Rattle.pddl_linked_plan.specs.LinkedLaws.{name_at}
use Rattle.pddl_task.specs.Tasks.{object_names}
use Rattle.pddl_plan_lines.proofs.LinePieces.{spaced_more}
use Rattle.pddl_plan_lines.proofs.lines.push_objects.Goals as goal

pub object_name-requires : goal.object_name-requires
object_name-requires g c =
    let IsObject : ℕ → Type 0 = λ n. n < length (task_of_files c.args.task.now).objects in
    All-get_or IsObject c.args.objects.now c.loop-object.object-index 0 c.loop-object-test.true (All-from_recursion IsObject c.args.objects.now c.requires)

pub loop-object-preserved : goal.loop-object-preserved
loop-object-preserved g c =
    spaced_more (name_at (object_names (task_of_files c.args.task.now))) c.args.line.now.items c.loop-object.line.items c.push_name.new.line.items c.object_name.result.now c.args.objects.now
    c.loop-object.object-index c.loop-object-test.true c.loop-object.invariant c.in_ok-push_name.ensures c.object_name.ensures

pub returns : goal.returns
returns g c =
    c.loop-object.invariant
    ∙ ap (λ objects. c.args.line.now.items ++ spaced (map (name_at (object_names (task_of_files c.args.task.now))) objects)) (take_all c.loop-object.object-index c.args.objects.now c.loop-object-test.false)
