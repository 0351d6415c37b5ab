use Rattle.std.proofs.Common.{◌∙◌, ap}
use Rattle.pddl_state.specs.AtomSets.{is_listed}
use Rattle.pddl_compiled_plan.proofs.Filled.{from_empty}
use Rattle.pddl_step.proofs.starting.initial_state.Goals as goal

pub returns-clause-content : goal.returns-clause-content
returns-clause-content g c =
    let content = g.S.AtomStore.content in
    let put = c.add_atoms-added.new in
    (λ i x. from_empty (is_listed c.deref.result.now x) (content c.args.store.now c.empty-set.result x) (content put.store put.set x) (ap (λ s. s x) c.empty-set.ensures.content) (c.in_ok-added.ensures.content x) i)
    ∙ ap is_listed (c.deref.ensures.value ∙ c.in_ok-atoms.ensures)
