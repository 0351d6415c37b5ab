use Rattle.std.proofs.Common.{◌<◌, ◌≤◌, ◌+◌, ◌∙◌, [], length, sym, ap, subst, arith}
use Rattle.std.proofs.lemmas.List.{get_or_default}
use Rattle.pddl_problem.specs.Inits.{fact_view}
use Rattle.pddl_task.specs.Names.{number_in}
use Rattle.pddl_task.specs.Tasks.{predicate_names, object_names}
use Rattle.pddl_linked_task.specs.LinkedTasks.{task_of_files}
use Rattle.pddl_linked_plan.proofs.InitialAtoms.{AreNumbers, no_numbers, next_known, one_more_number, all_numbers, names_known}
use Rattle.pddl_linked_plan.proofs.initial.numbered.Goals as goal

pub loop-i-init : goal.loop-i-init
loop-i-init g c =
    let task = task_of_files c.args.task.now in
    no_numbers (object_names task) c.args.fact.now.objects c.new-args.result.items (names_known task (fact_view c.args.fact.now) c.requires).1 c.new-args.ensures.items

pub object_number-requires : goal.object_number-requires
object_number-requires g c =
    let objects = c.args.fact.now.objects in
    let low : c.loop-i.i < length objects = omega (arith, c.loop-i-test.true, c.len-i-end.ensures) in
    next_known (object_names (task_of_files c.args.task.now)) objects c.loop-i.i c.at.result.now low (c.at.ensures.value ∙ get_or_default objects c.loop-i.i [] c.at.result.now low)
    c.loop-i.args.items c.loop-i.invariant

pub loop-i-preserved : goal.loop-i-preserved
loop-i-preserved g c =
    let names = object_names (task_of_files c.args.task.now) in
    let objects = c.args.fact.now.objects in
    let i = c.loop-i.i in
    let low : i < length objects = omega (arith, c.loop-i-test.true, c.len-i-end.ensures) in
    subst (AreNumbers names objects (i + 1)) (sym c.in_ok-push.ensures.items)
    (one_more_number names objects i c.at.result.now low (c.at.ensures.value ∙ get_or_default objects i [] c.at.result.now low) c.loop-i.args.items c.object_number.result c.object_number.ensures
    c.loop-i.invariant)

pub returns : goal.returns
returns g c =
    let task = task_of_files c.args.task.now in
    let names = object_names task in
    let objects = c.args.fact.now.objects in
    let predicate = c.predicate_number-predicate.ensures ∙ ap (number_in (predicate_names task)) c.as_bytes.ensures.value in
    let past : length objects ≤ c.loop-i.i = omega (arith, c.loop-i-test.false, c.len-i-end.ensures) in
    let args = all_numbers names objects c.loop-i.i c.loop-i.args.items past c.loop-i.invariant in
    ap (λ p. record { predicate = p; args = c.loop-i.args.items }) predicate
    ∙ ap (λ os. record { predicate = number_in (predicate_names task) c.args.fact.now.predicate; args = os }) args
