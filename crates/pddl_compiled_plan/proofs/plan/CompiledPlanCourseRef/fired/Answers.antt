use Rattle.std.proofs.Common.{◌≡◌, ◌∙◌, sym, ap, reverse}
use Rattle.pddl_state.specs.Atoms.{atom_eq}
use Rattle.pddl_compiled.specs.Views.{change_view}
use Rattle.pddl_evaluation.specs.Fires.{added, deleted}
use Rattle.pddl_compiled_plan.specs.HeldPlans.{plan_course}
use Rattle.pddl_compiled_plan.proofs.Filled.{from_empty, handed, handed_then}
use Rattle.pddl_compiled_plan.proofs.plan.CompiledPlanCourseRef.fired.Goals as goal

pub returns : goal.returns
returns g c =
    let owns = g.S.AtomStore.owns in
    let content = g.S.AtomStore.content in
    let own = c.applied-own.result in
    let state = content c.args.store.now c.args.state.now in
    let put = c.add_fired-added in
    let start = content c.args.store.now in
    let end = content put.new.store in
    record {
      adds_own = handed put.result c.and.ensures (λ s. owns put.new.store s.0) put.ensures.adds_own;
      dels_own = handed put.result c.and.ensures (λ s. owns put.new.store s.1) put.ensures.dels_own;
      adds = handed_then put.result c.and.ensures (λ s. end s.0 ≡ (plan_course c.args.self.now c.args.step).adds state) put.ensures.added (λ more.
          (λ i x. from_empty (added state (change_view own.action.now.effect) (atom_eq x) (reverse own.objects.now)) (start c.empty-adds.result x) (end put.new.adds x) (ap (λ s. s x) c.empty-adds.ensures.content) (more x) i)
          ∙ ap (λ q. q.adds state) (sym c.applied-own.ensures.step));
      dels = handed_then put.result c.and.ensures (λ s. end s.1 ≡ (plan_course c.args.self.now c.args.step).dels state) put.ensures.deleted (λ more.
          (λ i x. from_empty (deleted state (change_view own.action.now.effect) (atom_eq x) (reverse own.objects.now)) (start c.empty-dels.result x) (end put.new.dels x) (ap (λ s. s x) c.empty-dels.ensures.content) (more x) i)
          ∙ ap (λ q. q.dels state) (sym c.applied-own.ensures.step));
      others_own = put.ensures.others_own;
      others = put.ensures.others;
    }
