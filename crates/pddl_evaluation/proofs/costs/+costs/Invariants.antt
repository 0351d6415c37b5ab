use Rattle.std.proofs.Common.{◌≡◌, ◌+◌, ◌*◌, ◌≤◌, ◌∷◌, drop}
use Rattle.std.specs.Prelude.{sum_by}
use Rattle.pddl_compiled.specs.CompiledMeaning.{spent, spent_in}
use Rattle.pddl_compiled.specs.Views.{change_view, changes_view, frame_view}
use Rattle.pddl_evaluation.specs.Costs.{increases_of, increases_in, beyond_amounts}
use Rattle.pddl_evaluation.proofs.costs.+costs.Given as goal

abbrev pub invariant-spent_by_all-loop-change : goal.invariant-spent_by_all-loop-change
invariant-spent_by_all-loop-change g l =
    let price = g.P.Prices.price l.prices in
    let s = g.S.AtomStore.content l.store l.state in
    record {
      rest : l.total + spent_in price s (changes_view (drop l.change-index l.changes)) (frame_view l.frame) ≡ spent_in price s (changes_view l.changes) (frame_view l.frame);
      room : l.total + increases_in (changes_view (drop l.change-index l.changes)) * beyond_amounts ≤ increases_in (changes_view l.changes) * beyond_amounts;
    }

abbrev pub invariant-spent_by_each-loop-object : goal.invariant-spent_by_each-loop-object
invariant-spent_by_each-loop-object g l =
    let price = g.P.Prices.price l.prices in
    let s = g.S.AtomStore.content l.store l.state in
    record {
      rest : l.total + sum_by (λ o. spent price s (change_view l.change) (o ∷ frame_view l.frame)) (drop l.object-index l.range) ≡ sum_by (λ o. spent price s (change_view l.change) (o ∷ frame_view l.frame)) l.range;
      room : l.total + sum_by (λ o. increases_of (change_view l.change)) (drop l.object-index l.range) * beyond_amounts ≤ sum_by (λ o. increases_of (change_view l.change)) l.range * beyond_amounts;
    }
