use Rattle.std.proofs.Common.{[], ◌∷◌, inl, inr, ◌∙◌, map, refl, ap, arith}
use denote.Param.Weighed.{most}
use Rattle.std.proofs.lemmas.List.Concat.{flat_map-append}
use Rattle.pddl_formula.specs.TypedLists.{typed_view}
use Rattle.pddl_formula.proofs.Depths.{among}
use Rattle.pddl_effect.specs.Effects.{amount_view, effect_view, effects_of}
use Rattle.pddl_effect.proofs.effect.Effect.TheLaws.{the_size}
use Rattle.pddl_effect.proofs.Depths.{under_all}
use Rattle.pddl_effect.proofs.Views.{view_add, view_del, view_increase, view_and, view_when, view_forall}
use Rattle.pddl_task.specs.Places.{at, calls, bare, total_cost, amount_part, effect_places, effects_places, binding}
use Rattle.pddl_task.proofs.Lists.{append-none}
use Rattle.pddl_faults.proofs.FoundFaults.{up_to_none}
use Rattle.pddl_names.specs.Scopes.{bound_in}
use Rattle.pddl_names.specs.Uses.{faults_by}
use Rattle.pddl_names.proofs.Walks.{stopped, in_turn, one_more, at_end}
use Rattle.pddl_names.proofs.walk.+search_effect.Goals as goal

pub returns-in-When-clause-found : goal.returns-in-When-clause-found
returns-in-When-clause-found g t c =
    rw (c.in-When.is, view_when _ _, flat_map-append)
    (c.lower-in-When.ensures.found _ _ c.search_formula-condition.ensures.found (rw (c.deref-in-When.ensures, c.search_formula-condition.ensures.kept) at c.search_effect-in-When.ensures.found))

pub returns-in-Err-clause-found : goal.returns-in-Err-clause-found
returns-in-Err-clause-found g t c =
    let xs = map typed_view c.in-Forall.variables.items in
    rw (c.in-Forall.is, view_forall _ _)
    (stopped c.args.known.now xs (effect_places (effect_view c.in-Forall.inner.value) (binding xs (bound_in c.args.scope.now))) c.in-Err.fault c.in-Err.ensures.passes)

pub returns-in-Ok-clause-found : goal.returns-in-Ok-clause-found
returns-in-Ok-clause-found g t c =
    rw (c.in-Forall.is, view_forall _ _, c.in-Ok.ensures.passes, append-none)
    (c.lower.ensures.found _ _ c.in-Ok.ensures.found (rw (c.deref.ensures, c.in-Ok.ensures.bound) at c.search_effect-found.ensures.found))

pub loop-part-init : goal.loop-part-init
loop-part-init g t c = record { told = c.requires; kept = refl; so_far = up_to_none }

pub loop-part-preserved : goal.loop-part-preserved
loop-part-preserved g t c =
    let before = c.loop-part.invariant in
    let next = c.search_effect.ensures in
    record {
      told = next.told;
      kept = next.kept ∙ before.kept;
      so_far = one_more (faults_by c.args.known.now) (λ es. effects_places (effects_of (map effect_view es)) (bound_in c.args.scope.now)) c.deref-part-items.result.now _ _ _ c.loop-part-test.true c.part-item.is
          (λ rest. refl) c.lower-found.ensures.found (rw before.kept at next.found) before.so_far;
    }

pub returns-after-loop-part-clause-found : goal.returns-after-loop-part-clause-found
returns-after-loop-part-clause-found g t c =
    rw (c.in-And.is, view_and _)
    (at_end (faults_by c.args.known.now) (λ es. effects_places (effects_of (map effect_view es)) (bound_in c.args.scope.now)) c.deref-part-items.result.now c.loop-part-test.false refl c.deref-part-items.ensures.value
    c.loop-part.invariant.so_far)

pub search_effect-requires : goal.search_effect-requires
search_effect-requires g t c κs lives =
    let depth = the_size g.row.A g.A.Allocator g.A.laws in
    let same = ap (most depth) c.deref-part-items.ensures.value in
    let less = among depth c.deref-part-items.result.now c.loop-part.part-index c.part-item.result c.loop-part-test.true c.part-item.is in
    (omega (arith, less, same, under_all g.row.A g.A.Allocator g.A.laws c.args.effect.now c.in-And.parts c.in-And.is, c.decreases), (lives.0, (lives.1, c.loop-part.invariant.told)))

pub returns-in-Add-clause-found : goal.returns-in-Add-clause-found
returns-in-Add-clause-found g t c =
    let found = rw c.of_atom.ensures at c.look-in-Add.ensures.found in
    elim c.in-Add.is [ inl here ↦ rw (here, view_add _) found | inr here ↦ rw (here, view_del _) found ]

pub returns-in-Increase-clause-found : goal.returns-in-Increase-clause-found
returns-in-Increase-clause-found g t c =
    let b = bound_in c.args.scope.now in
    rw (c.in-Increase.is, view_increase _)
    (in_turn (faults_by c.args.known.now) (at b (calls (bare total_cost)) ∷ []) (at b (amount_part (amount_view c.in-Increase.amount)) ∷ []) _ _ _ c.lower-in-Increase.ensures.found
    (rw c.total_cost.ensures at c.look-cost.ensures.found) (rw c.of_amount.ensures at c.look.ensures.found))
