use Rattle.std.proofs.Common.{◌≡◌, ◌+◌, ◌<◌, ℕ, true, length, sym, ap, ◌∙◌, subst, arith}
use Rattle.std.specs.Prelude.{Some, slice_get}
use Rattle.std.proofs.lemmas.Option.{slice_get_within, slice_get-get_or}
use Rattle.pddl_linked_task.specs.LinkedTasks.{task_of_files}
use Rattle.pddl_compiled_plan.specs.CompiledSteps.{AreForms, IsHeld}
use Rattle.pddl_step.proofs.Held.{form_more, held_more, one_longer}
use Rattle.pddl_step.proofs.actions.compile_all_marked.Goals as goal

pub loop-number-preserved : goal.loop-number-preserved
loop-number-preserved g c =
    let task = task_of_files c.args.task.now in
    let marks = c.args.marks.now in
    let held = c.loop-number.held.items in
    let o = c.in_ok-compile_marked.field-0 in
    let n = c.loop-number.number in
    let many = c.loop-number.invariant.as_many in
    let items = c.in_ok-push.ensures.items in
    record {
      as_many = ap length items ∙ one_longer held o ∙ ap (λ k. k + 1) many;
      forms = subst (AreForms task) (sym items) (form_more task held o _ n many c.in_ok-compile_marked.ensures c.loop-number.invariant.forms);
      made = subst (λ xs. (k : ℕ) → k < length xs → slice_get marks k ≡ Some true → IsHeld xs k) (sym items)
          (held_more task held o _ n many c.in_ok-compile_marked.ensures marks c.loop-number.invariant.made (slice_get-get_or marks n _ c.loop-number-test.true));
    }

pub returns-clause-held : goal.returns-clause-held
returns-clause-held g c n on =
    let low = slice_get_within c.args.marks.now n true on in
    c.loop-number.invariant.made n (omega (arith, low, c.loop-number-test.false, c.loop-number.invariant.as_many)) on
