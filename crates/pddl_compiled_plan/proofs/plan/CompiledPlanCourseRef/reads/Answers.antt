use Rattle.std.proofs.Common.{◌≡◌, ◌∙◌, sym, ap, reverse}
use Rattle.pddl_compiled_plan.specs.HeldPlans.{plan_course}
use Rattle.pddl_compiled_plan.specs.CompiledSteps.{form_in, action_reads}
use Rattle.pddl_compiled_plan.proofs.Filled.{from_empty, handed, handed_then}
use Rattle.pddl_compiled_plan.proofs.plan.CompiledPlanCourseRef.reads.Goals as goal

pub returns : goal.returns
returns g c =
    let owns = g.S.AtomStore.owns in
    let content = g.S.AtomStore.content in
    let own = c.applied-own.result in
    let added = c.add_action_reads-added in
    let start = content c.args.store.now c.empty-set.result in
    let end = content added.new.store added.new.into in
    record {
      own = handed added.result c.and.ensures (owns added.new.store) added.ensures.own;
      content = handed_then added.result c.and.ensures (λ set. content added.new.store set ≡ (plan_course c.args.self.now c.args.step).reads) added.ensures.ok (λ put.
          (λ i x. from_empty (action_reads (form_in own.action.now) (reverse own.objects.now) x) (start x) (end x) (ap (λ s. s x) c.empty-set.ensures.content) (put x) i)
          ∙ ap (λ q. q.reads) (sym c.applied-own.ensures.step));
      others_own = added.ensures.others_own;
      others = added.ensures.others;
    }
