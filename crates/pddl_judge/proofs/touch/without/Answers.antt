use Rattle.std.proofs.Common.{ap, ◌∙◌}
use Rattle.pddl_state.specs.AtomSets.{difference}
use Rattle.pddl_judge.proofs.touch.without.Goals as goal

pub returns-clause-own : goal.returns-clause-own
returns-clause-own g c = c.subtract.ensures.own

pub returns-clause-content : goal.returns-clause-content
returns-clause-content g c = c.subtract.ensures.content ∙ ap (λ s. difference s (g.S.AtomStore.content c.args.store.now c.args.b.now)) c.in_ok-rest.ensures.content
