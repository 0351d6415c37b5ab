use Rattle.std.proofs.Common.{[], ◌∷◌, refl, map, subst, ◌∙◌}
use Rattle.std.proofs.lemmas.Result.{err_from_is_err_and}
use Rattle.pddl_forest.specs.Rounds.{HasRound, AreRounds}
use Rattle.pddl_domain.specs.Declarations.{type_view}
use Rattle.pddl_task.specs.Linked.{fault}
use Rattle.pddl_task.proofs.Lists.{has_none}
use Rattle.pddl_task.proofs.LowestFault.{first_is_lowest}
use Rattle.pddl_faults.proofs.Verdicts.{found_at}
use Rattle.pddl_types.proofs.TypeTables.{parents_within, no_cycle}
use Rattle.pddl_types.proofs.types.spans_of.Goals as goal

pub returns-in_err-put_types-clause-verdict : goal.returns-in_err-put_types-clause-verdict
returns-in_err-put_types-clause-verdict g c =
    let p = err_from_is_err_and c.from_residual.result c.from_residual.ensures.1 in
    rw (p.1, p.2) (found_at [] 21 _ _ c.in_err-put_types.field-0.0 tt refl c.in_err-put_types.ensures.once)

pub forest_spans-requires-clause-within : goal.forest_spans-requires-clause-within
forest_spans-requires-clause-within g c =
    rw (c.deref.ensures.value ∙ c.in_ok-parents.ensures) (parents_within (map type_view c.args.declared.now.items) c.put_types.new.parents.entries (c.in_ok-put_types.ensures.once, c.in_ok-put_types.ensures.table))

pub first_cycle-requires : goal.first_cycle-requires
first_cycle-requires g c =
    let round = subst (λ ps. HasRound ps × AreRounds ps c.in-Err.numbers.items) (c.deref.ensures.value ∙ c.in_ok-parents.ensures) (rw c.in-Err.is at c.in_ok-spans.ensures.round) in
    record { table = rw c.deref-in-Err-2.ensures.value (c.in_ok-put_types.ensures.once, c.in_ok-put_types.ensures.table); numbers = rw c.deref-in-Err.ensures.value round.1; round = round.0 }

pub returns-in-Ok-clause-verdict : goal.returns-in-Ok-clause-verdict
returns-in-Ok-clause-verdict g c = (
  c.in_ok-put_types.ensures.once,
  (
    no_cycle (map type_view c.args.declared.now.items) c.put_types.new.parents.entries (c.in_ok-put_types.ensures.once, c.in_ok-put_types.ensures.table)
        (subst (λ ps. HasRound ps → ⊥) (c.deref.ensures.value ∙ c.in_ok-parents.ensures) (rw c.in-Ok.is at c.in_ok-spans.ensures.none)),
    tt,
  ),
)

pub returns-clause-verdict : goal.returns-clause-verdict
returns-clause-verdict g c =
    first_is_lowest (fault 21 _ ∷ []) (fault 22 _) [] c.first_cycle.result.now (c.in_ok-put_types.ensures.once, tt) (rw c.deref-in-Err-2.ensures.value at c.first_cycle.ensures) (λ f there. absurd (has_none f there))
