use Rattle.std.proofs.Common.{◌≡◌, sym, ap, subst}
use Rattle.std.specs.Prelude.{IfOk}
use Rattle.pddl_compiled_plan.proofs.plan.CompiledPlanCourseRef.cost.Goals as goal

pub returns-clause-value : goal.returns-clause-value
returns-clause-value g c =
    let state = g.S.AtomStore.content c.args.store.now c.args.state.now in
    subst (λ n. IfOk c.spent.result (λ m. m ≡ n)) (ap (λ q. q.cost state) (sym c.applied-own.ensures.step)) c.spent.ensures.spent
