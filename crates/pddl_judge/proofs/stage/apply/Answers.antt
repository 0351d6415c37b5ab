use Rattle.std.proofs.Common.{◌≡◌, Ok, Err, not, ◌&&◌, ◌||◌, ap, ◌∙◌}
use Rattle.std.specs.Prelude.{IfOk, OnOk}
use Rattle.pddl_state.specs.Atoms.{AtomValue}
use Rattle.pddl_state.specs.AtomSets.{union}
use Rattle.pddl_judge.proofs.stage.apply.Goals as goal

pub returns-clause-content : goal.returns-clause-content
returns-clause-content g c =
    let content = g.S.AtomStore.content c.args.store.now in
    let state = content c.args.state.now in
    let adds = content c.args.adds.now in
    let dels = content c.args.dels.now in
    let new = content c.unite.new.set in
    elim c.unite.result as (λ r. OnOk r (new ≡ union (content c.subtract.new.set) adds) → IfOk r (λ _. (a : AtomValue) → new a ≡ ((state a && not (dels a)) || adds a))) [
      | Ok _ ↦ λ united a. (λ i. (united ∙ ap (λ s. union s adds) c.subtract.ensures.content) i a)
      | Err _ ↦ λ _. tt
    ] c.unite.ensures.ok
