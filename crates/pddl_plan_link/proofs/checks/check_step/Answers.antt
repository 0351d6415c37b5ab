use Rattle.std.proofs.Common.{refl}
use Rattle.pddl_linked_task.specs.LinkedTasks.{task_of_files}
use Rattle.pddl_tables.specs.Lookups.{price_in}
use Rattle.pddl_plan_link.proofs.CheckedSteps.{action_unknown, number_is, found_there, number_low, slots_are, arity_differs, object_unknown, numbers_are, type_differs, step_is_large, cost_is_undefined, step_is_good}
use Rattle.pddl_plan_link.proofs.checks.check_step.Goals as goal

pub returns-in_default-clause-verdict : goal.returns-in_default-clause-verdict
returns-in_default-clause-verdict g c =
    (refl, action_unknown (task_of_files c.args.tables.now.task.now) c.args.tables.now.actions.entries c.args.step.now c.action.result.now c.requires.tables.actions c.action.ensures c.in_default.ensures.index)

pub returns-then-arity-len-clause-verdict : goal.returns-then-arity-len-clause-verdict
returns-then-arity-len-clause-verdict g c = (
  refl,
  arity_differs (task_of_files c.args.tables.now.task.now) c.args.tables.now.actions.entries c.args.step.now c.action.result.now c.requires.tables.actions c.action.ensures
      c.in-Some.number c.in-Some.field-0-1.now c.in-Some.found.now c.in-Some.ensures.index c.in-Some.ensures.entry c.arity.result c.len.result c.arity.ensures c.len.ensures c.if-arity-len.true,
)

pub returns-then-not-branch-clause-verdict : goal.returns-then-not-branch-clause-verdict
returns-then-not-branch-clause-verdict g c = (
  refl,
  object_unknown (task_of_files c.args.tables.now.task.now) c.args.tables.now.actions.entries c.args.step.now c.action.result.now c.requires.tables.actions c.action.ensures
      c.in-Some.number c.in-Some.field-0-1.now c.in-Some.found.now c.in-Some.ensures.index c.in-Some.ensures.entry c.arity.result c.len.result c.arity.ensures c.len.ensures c.if-arity-len.false
      c.args.step.now.objects c.in_ok-number_objects.field-0 refl c.in_ok-number_objects.ensures.known c.if-not-branch.true,
)

pub returns-then-some_unfit-clause-verdict : goal.returns-then-some_unfit-clause-verdict
returns-then-some_unfit-clause-verdict g c = (
  refl,
  type_differs (task_of_files c.args.tables.now.task.now) c.args.tables.now.actions.entries c.args.step.now c.action.result.now c.requires.tables.actions c.action.ensures
      c.in-Some.number c.in-Some.field-0-1.now c.in-Some.found.now c.in-Some.ensures.index c.in-Some.ensures.entry c.arity.result c.len.result c.arity.ensures c.len.ensures c.if-arity-len.false
      c.args.step.now.objects c.in_ok-number_objects.field-0 refl c.in_ok-number_objects.ensures.known c.number_objects.new.numbers.items c.in_ok-number_objects.ensures.numbers c.if-not-branch.false
      c.deref.result.now c.some_unfit.result c.deref.ensures.value c.some_unfit.ensures c.if-some_unfit.true,
)

pub returns-then-found-gt1000000-clause-verdict : goal.returns-then-found-gt1000000-clause-verdict
returns-then-found-gt1000000-clause-verdict g c = (
  refl,
  step_is_large (task_of_files c.args.tables.now.task.now) c.args.tables.now.actions.entries c.args.step.now c.action.result.now c.requires.tables.actions c.action.ensures
      c.in-Some.number c.in-Some.field-0-1.now c.in-Some.found.now c.in-Some.ensures.index c.in-Some.ensures.entry c.arity.result c.len.result c.arity.ensures c.len.ensures c.if-arity-len.false
      c.args.step.now.objects c.in_ok-number_objects.field-0 refl c.in_ok-number_objects.ensures.known c.number_objects.new.numbers.items c.in_ok-number_objects.ensures.numbers c.if-not-branch.false
      c.deref.result.now c.some_unfit.result c.deref.ensures.value c.some_unfit.ensures c.if-some_unfit.false c.if-found-gt1000000.true,
)

pub lacks_cost-requires : goal.lacks_cost-requires
lacks_cost-requires g c =
    record {
      action = found_there (task_of_files c.args.tables.now.task.now) c.args.tables.now.actions.entries c.args.step.now c.action.result.now c.requires.tables.actions c.action.ensures
          c.in-Some.number c.in-Some.field-0-1.now c.in-Some.found.now c.in-Some.ensures.index c.in-Some.ensures.entry;
      changes = c.requires.changes;
    }

pub returns-then-branch-clause-verdict : goal.returns-then-branch-clause-verdict
returns-then-branch-clause-verdict g c =
    let files = c.args.tables.now.task.now in (
      refl,
      cost_is_undefined (task_of_files c.args.tables.now.task.now) c.args.tables.now.actions.entries c.args.step.now c.action.result.now c.requires.tables.actions c.action.ensures
          c.in-Some.number c.in-Some.field-0-1.now c.in-Some.found.now c.in-Some.ensures.index c.in-Some.ensures.entry c.arity.result c.len.result c.arity.ensures c.len.ensures c.if-arity-len.false
          c.args.step.now.objects c.in_ok-number_objects.field-0 refl c.in_ok-number_objects.ensures.known c.number_objects.new.numbers.items c.in_ok-number_objects.ensures.numbers c.if-not-branch.false
          c.deref.result.now c.some_unfit.result c.deref.ensures.value c.some_unfit.ensures
          c.if-some_unfit.false c.if-found-gt1000000.false files.domain files.problem c.requires.tables.linked refl (price_in c.args.tables.now.prices)
          c.requires.tables.prices c.deref-2.result.now c.in_ok-lacks_cost.field-0 c.deref-2.ensures.value c.in_ok-lacks_cost.ensures.answer c.if-branch.true,
    )

pub returns-clause-verdict : goal.returns-clause-verdict
returns-clause-verdict g c =
    let files = c.args.tables.now.task.now in
    step_is_good (task_of_files c.args.tables.now.task.now) c.args.tables.now.actions.entries c.args.step.now c.action.result.now c.requires.tables.actions c.action.ensures
    c.in-Some.number c.in-Some.field-0-1.now c.in-Some.found.now c.in-Some.ensures.index c.in-Some.ensures.entry c.arity.result c.len.result c.arity.ensures c.len.ensures c.if-arity-len.false
    c.args.step.now.objects c.in_ok-number_objects.field-0 refl c.in_ok-number_objects.ensures.known c.number_objects.new.numbers.items c.in_ok-number_objects.ensures.numbers c.if-not-branch.false
    c.deref.result.now c.some_unfit.result c.deref.ensures.value c.some_unfit.ensures
    c.if-some_unfit.false c.if-found-gt1000000.false files.domain files.problem c.requires.tables.linked refl (price_in c.args.tables.now.prices)
    c.requires.tables.prices c.deref-2.result.now c.in_ok-lacks_cost.field-0 c.deref-2.ensures.value c.in_ok-lacks_cost.ensures.answer c.if-branch.false

pub returns-clause-action : goal.returns-clause-action
returns-clause-action g c =
    number_is (task_of_files c.args.tables.now.task.now) c.args.tables.now.actions.entries c.args.step.now c.action.result.now c.requires.tables.actions c.action.ensures
    c.in-Some.number c.in-Some.field-0-1.now c.in-Some.found.now c.in-Some.ensures.index c.in-Some.ensures.entry

pub returns-clause-objects : goal.returns-clause-objects
returns-clause-objects g c =
    numbers_are (task_of_files c.args.tables.now.task.now) c.args.tables.now.actions.entries c.args.step.now c.action.result.now c.requires.tables.actions c.action.ensures
    c.in-Some.number c.in-Some.field-0-1.now c.in-Some.found.now c.in-Some.ensures.index c.in-Some.ensures.entry c.arity.result c.len.result c.arity.ensures c.len.ensures c.if-arity-len.false
    c.args.step.now.objects c.in_ok-number_objects.field-0 refl c.in_ok-number_objects.ensures.known c.number_objects.new.numbers.items c.in_ok-number_objects.ensures.numbers c.if-not-branch.false

pub some_unfit-requires : goal.some_unfit-requires
some_unfit-requires g c =
    let task = task_of_files c.args.tables.now.task.now in
    record {
      action = number_low task c.args.tables.now.actions.entries c.args.step.now c.action.result.now c.requires.tables.actions c.action.ensures
          c.in-Some.number c.in-Some.field-0-1.now c.in-Some.found.now c.in-Some.ensures.index c.in-Some.ensures.entry;
      parameters = slots_are task c.args.tables.now.actions.entries c.args.step.now c.action.result.now c.requires.tables.actions c.action.ensures
          c.in-Some.number c.in-Some.field-0-1.now c.in-Some.found.now c.in-Some.ensures.index c.in-Some.ensures.entry c.arity.result c.len-2.result c.arity.ensures c.len-2.ensures;
    }
