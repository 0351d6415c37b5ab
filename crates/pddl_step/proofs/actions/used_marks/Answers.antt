use Rattle.std.proofs.Common.{◌<◌, true, arith, subst, sym, ap, ◌∙◌}
use Rattle.std.proofs.lemmas.List.{length-set}
use Rattle.std.proofs.lemmas.Option.{slice_get_within}
use Rattle.pddl_linked_plan.specs.StepParts.{lent_step}
use Rattle.pddl_compiled_plan.proofs.Forms.{same_some}
use Rattle.pddl_step.proofs.Marked.{marked_more}
use Rattle.pddl_step.proofs.actions.used_marks.Goals as goal

pub loop-k-preserved : goal.loop-k-preserved
loop-k-preserved g c =
    let marks = c.loop-k.marks.items in
    let number = c.step.result.action in
    record {
      as_many = length-set marks number true ∙ c.loop-k.invariant.as_many;
      marked = marked_more c.args.steps.now marks c.loop-k.k number (subst (λ n. number < n) (sym c.loop-k.invariant.as_many) (c.requires c.loop-k.k (lent_step c.step.result) (sym c.step.ensures))) (λ s is. ap (λ l. l.action) (same_some s _ (sym is ∙ sym c.step.ensures))) c.loop-k.invariant.marked;
    }

pub returns : goal.returns
returns g c = record {
  as_many = c.loop-k.invariant.as_many;
  marked = λ k s is. c.loop-k.invariant.marked k s (omega (arith, slice_get_within c.args.steps.now k s is, c.loop-k-test.false, c.len-k-end.ensures)) is;
}
