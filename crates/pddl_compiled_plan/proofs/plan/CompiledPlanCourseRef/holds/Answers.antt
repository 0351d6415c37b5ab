use Rattle.std.proofs.Common.{◌≡◌, sym, ap, subst}
use Rattle.std.specs.Prelude.{IfOk}
use Rattle.pddl_compiled_plan.proofs.plan.CompiledPlanCourseRef.holds.Goals as goal

pub returns : goal.returns
returns g c =
    let state = g.S.AtomStore.content c.args.store.now c.args.state.now in
    subst (λ b. IfOk c.is_true.result (λ yes. yes ≡ b)) (ap (λ q. q.ready state) (sym c.applied-own.ensures.step)) c.is_true.ensures
