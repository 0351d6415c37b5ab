use Rattle.std.proofs.Common.{refl, sym, true≢false, arith}
use Rattle.std.proofs.lemmas.Option.{get_or_from_slice_get}
use Rattle.pddl_task.specs.Tasks.{object_names}
use Rattle.pddl_linked_task.specs.LinkedTasks.{task_of_files}
use Rattle.pddl_linked_plan.proofs.NumberedObjects.{none_numbered, numbered_more, unknown_found, all_known, all_numbered}
use Rattle.pddl_plan_link.proofs.checks.number_objects.Goals as goal

pub loop-place-init : goal.loop-place-init
loop-place-init g c =
    none_numbered (object_names (task_of_files c.args.task.now)) c.args.step.now.objects c.clear.new.self.items c.clear.ensures.items

pub loop-place-preserved : goal.loop-place-preserved
loop-place-preserved g c =
    let known = object_names (task_of_files c.args.task.now) in
    let i = c.loop-place.place in
    rw c.in_ok-push-in-Some.ensures.items
    (numbered_more known c.args.step.now.objects i c.object.result.now c.loop-place.numbers.items c.in-Some.number c.object.result.now (omega (arith, c.arity-place-end.ensures, c.loop-place-test.true)) (sym (get_or_from_slice_get c.args.step.now.objects c.loop-place.place c.object.result.now c.object.result.now c.object.ensures))
    refl c.in-Some.ensures c.loop-place.invariant)

pub returns-in-None : goal.returns-in-None
returns-in-None g c =
    record {
      known = unknown_found (object_names (task_of_files c.args.task.now)) c.args.step.now.objects c.loop-place.place c.object.result.now c.loop-place.numbers.items c.object.result.now
          (omega (arith, c.arity-place-end.ensures, c.loop-place-test.true)) (sym (get_or_from_slice_get c.args.step.now.objects c.loop-place.place c.object.result.now c.object.result.now c.object.ensures)) refl c.in-None.ensures c.loop-place.invariant;
      numbers = λ yes. absurd (true≢false (sym yes));
    }

pub returns : goal.returns
returns g c =
    let known = object_names (task_of_files c.args.task.now) in
    record {
      known = all_known known c.args.step.now.objects c.loop-place.place c.loop-place.numbers.items (omega (arith, c.arity-place-end.ensures, c.loop-place-test.false)) c.loop-place.invariant;
      numbers = λ yes. all_numbered known c.args.step.now.objects c.loop-place.place c.loop-place.numbers.items (omega (arith, c.arity-place-end.ensures, c.loop-place-test.false)) c.loop-place.invariant;
    }
