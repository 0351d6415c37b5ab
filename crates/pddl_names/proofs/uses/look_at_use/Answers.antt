use Rattle.std.proofs.Common.{[], ◌<◌, length, map, Ok, Err, refl, sym, ◌∙◌, arith}
use Rattle.std.proofs.lemmas.List.{length-map}
use Rattle.pddl_formula.specs.TypedLists.{typed_view}
use Rattle.pddl_task.proofs.Lists.{has_first}
use Rattle.pddl_faults.specs.declared.fault.LinkFault.TheVariants as link
use Rattle.pddl_names.specs.Parts.{terms_in}
use Rattle.pddl_names.specs.Scopes.{bound_in}
use Rattle.pddl_names.specs.Uses.{setting_of}
use Rattle.pddl_names.proofs.UseFaults.{undeclared_found, declared_slots, unknown_found, others_found, misfit_found}
use Rattle.pddl_names.proofs.TermSlots.{known_term, unknown_here, known_here, fits_slot, fits_here, past_here}
use Rattle.pddl_names.proofs.ToldUses.{slot_there, no_slot}
use Rattle.pddl_names.proofs.uses.look_at_use.Goals as goal
use Rattle.pddl_names.proofs.uses.look_at_use.Goals.{in-Some-get+in_ok-all_fit, in_default-get}

pub returns-in_default-clause-found : goal.returns-in_default-clause-found
returns-in_default-clause-found g c = undeclared_found (setting_of c.args.known.now) _ (terms_in c.args.terms.now) c.args.declared.now.entries c.args.symbol c.in_default.ensures.value

pub returns-in_default-type_of-clause-found : goal.returns-in_default-type_of-clause-found
returns-in_default-type_of-clause-found g c =
    let s = setting_of c.args.known.now in
    let b = bound_in c.args.scope.now in
    let ts = terms_in c.args.terms.now in
    let typed = rw c.in_default-type_of.is at c.type_of.ensures c.args.told.now c.requires.told in
    unknown_found s b ts c.args.declared.now.entries c.args.symbol c.in-Some.slots.now c.in-Some.ensures.value c.at-term.result.name
    (unknown_here s b ts c.loop-i.i _ (rw c.len-i-end.ensures at c.loop-i-test.true) c.at-term.ensures _ _ c.loop-i.invariant.unknown (known_term s b c.at-term.result c.args.told.now _ typed))

pub loop-i-preserved : goal.loop-i-preserved
loop-i-preserved g c =
    let s = setting_of c.args.known.now in
    let b = bound_in c.args.scope.now in
    let told = c.args.told.now in
    let all = terms_in c.args.terms.now in
    let slots = c.in-Some.slots.now in
    let at_slots = declared_slots s b all c.args.declared.now.entries c.args.symbol slots c.in-Some.ensures.value told c.requires.slots in
    let xs = map typed_view slots.parameters.now in
    let i = c.loop-i.i in
    let before = c.loop-i.invariant in
    let low : i < length all = rw c.len-i-end.ensures at c.loop-i-test.true in
    let typed = c.in-Some-type_of.ensures told c.requires.told in
    let known = known_here s b all i _ low c.at-term.ensures _ before.unknown (known_term s b c.at-term.result told _ typed) in
    let item = rw c.deref.ensures.value at c.get-in-loop-i.ensures.lookup in
    elim c.match-get-2.branch [
      | in-Some-get+in_ok-all_fit w ↦
          let slot = slot_there told slots at_slots i w.in-Some-get.slot (rw w.in-Some-get.is at item) in
          let fit = fits_slot told s.pairs _ slot.0 c.in-Some-type_of.number _ w.in_ok-all_fit.field-0 (rw before.kept at w.in_ok-all_fit.ensures.fits) typed slot.2 in
          record {
            kept = w.told-is ∙ w.in_ok-all_fit.ensures.kept ∙ before.kept;
            unknown = known;
            misfit = fits_here s b all i _ low c.at-term.ensures xs slot.0 w.in_ok-all_fit.field-0 c.loop-i.all_fit _ _ slot.1 fit w.all_fit-is before.misfit;
          }
      | in_default-get w ↦ record {
        kept = w.told-is ∙ before.kept;
        unknown = known;
        misfit = rw w.all_fit-is (past_here s b all i _ low c.at-term.ensures xs c.loop-i.all_fit _ (no_slot told slots at_slots i (rw w.in_default-get.is at item)) before.misfit);
      }
    ]

pub returns-then-len-slots-clause-found : goal.returns-then-len-slots-clause-found
returns-then-len-slots-clause-found g c =
    let slots = c.in-Some.slots.now in
    others_found (setting_of c.args.known.now) _ (terms_in c.args.terms.now) c.args.declared.now.entries c.args.symbol slots c.in-Some.ensures.value c.loop-i.i (rw c.len-i-end.ensures at c.loop-i-test.false) c.loop-i.invariant.unknown
    (λ is. omega (arith, is, c.len.ensures, length-map slots.parameters.now typed_view, c.if-len-slots.true))

pub returns-else-all_fit-clause-found : goal.returns-else-all_fit-clause-found
returns-else-all_fit-clause-found g c =
    let slots = c.in-Some.slots.now in
    let same = length-map slots.parameters.now typed_view in
    misfit_found (setting_of c.args.known.now) _ (terms_in c.args.terms.now) c.args.declared.now.entries c.args.symbol slots c.in-Some.ensures.value c.loop-i.i (rw c.len-i-end.ensures at c.loop-i-test.false) c.loop-i.invariant.unknown
    c.loop-i.all_fit (Err (link.ArgumentType c.args.symbol)) (sym c.len.ensures ∙ c.if-len-slots.false ∙ sym same) c.loop-i.invariant.misfit (rw c.if-all_fit.false (refl, has_first c.args.symbol.now []))

pub returns-then-all_fit-clause-found : goal.returns-then-all_fit-clause-found
returns-then-all_fit-clause-found g c =
    let slots = c.in-Some.slots.now in
    let same = length-map slots.parameters.now typed_view in
    misfit_found (setting_of c.args.known.now) _ (terms_in c.args.terms.now) c.args.declared.now.entries c.args.symbol slots c.in-Some.ensures.value c.loop-i.i (rw c.len-i-end.ensures at c.loop-i-test.false) c.loop-i.invariant.unknown
    c.loop-i.all_fit (Ok tt) (sym c.len.ensures ∙ c.if-len-slots.false ∙ sym same) c.loop-i.invariant.misfit (rw c.if-all_fit.true refl)
