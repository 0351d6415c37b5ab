use Rattle.std.proofs.Common.{◌≡◌, true, cond, ◌++◌, map, refl, sym, ap, ◌∙◌}
use Rattle.pddl_formula.specs.Formulas.{formula_view}
use Rattle.pddl_formula.specs.Terms.{term_view}
use Rattle.pddl_formula.specs.TypedLists.{typed_view}
use Rattle.pddl_task.specs.Names.{number_in}
use Rattle.pddl_compiled.specs.Compiler.{places_of, nested, condition_of}
use Rattle.pddl_compiled.specs.Compiled as value
use Rattle.pddl_compiled.specs.declared.compiled.Condition.TheVariants.{Known}
use Rattle.pddl_compiled.proofs.Rows.{view_known, view_atom, view_not, view_imply, view_and, view_or}
use Rattle.pddl_compiled.proofs.Cases.{atom_right, equal_right, not_right, imply_right, and_right, or_right, exists_right, forall_right}
use Rattle.std.specs.Prelude.{Ok}
use Rattle.pddl_compiled.specs.Views.{place_view, condition_view, conditions_view}
use Rattle.pddl_compiled.specs.Scopes.{scope_view}
use Rattle.pddl_compiled.proofs.Binders.{after, weaker, ok_known}
use Rattle.pddl_compiled.proofs.Quantifiers.{inside_closed, inside_open, around_right, one_item, no_item}
use Rattle.pddl_compiled.proofs.conditions.+conditions.Goals.{compile_parts-then-all, compile_parts-else-all, compile_quantified-then-binder, compile_quantified-else-binder}
use Rattle.pddl_compiled.proofs.conditions.+conditions.Goals as goal

pub compile_condition-returns-in-Equal : goal.compile_condition-returns-in-Equal
compile_condition-returns-in-Equal g t c =
    weaker _ _ (λ k is. is ∙ equal_right (g.L.Lookups.tables c.args.lookups.now) (scope_view c.args.scope.now) c.args.formula.now c.in-Equal.first c.in-Equal.second c.in-Equal.is) c.equality.result c.equality.ensures

pub compile_condition-returns-in-And : goal.compile_condition-returns-in-And
compile_condition-returns-in-And g t c =
    weaker _ _ (λ k is. is ∙ and_right (g.L.Lookups.tables c.args.lookups.now) (scope_view c.args.scope.now) c.args.formula.now c.in-And.parts c.in-And.is) c.compile_parts.result c.compile_parts.ensures

pub compile_condition-returns-in-Or : goal.compile_condition-returns-in-Or
compile_condition-returns-in-Or g t c =
    weaker _ _ (λ k is. is ∙ or_right (g.L.Lookups.tables c.args.lookups.now) (scope_view c.args.scope.now) c.args.formula.now c.in-Or.parts c.in-Or.is) c.compile_parts-in-Or.result c.compile_parts-in-Or.ensures

pub add_conditions-returns : goal.add_conditions-returns
add_conditions-returns g t c =
    no_item condition_view (λ f. condition_of (g.L.Lookups.tables c.args.lookups.now) (formula_view f) (scope_view c.args.scope.now)) c.args.conditions.now.items c.loop-formula.conditions.items c.args.formulas.now.items c.deref-formula-items.result.now c.loop-formula.formula-index c.deref-formula-items.ensures.value c.loop-formula-test.false c.loop-formula.invariant

pub compile_condition-returns-in-Exists : goal.compile_condition-returns-in-Exists
compile_condition-returns-in-Exists g t c =
    let tables = g.L.Lookups.tables c.args.lookups.now in
    let scope = scope_view c.args.scope.now in
    weaker _ _ (λ k is. is ∙ (ap (λ f. nested value.existential (value.known true) tables (map typed_view c.in-Exists.variables.items) (condition_of tables (formula_view f)) scope) c.deref-in-Exists.ensures
    ∙ exists_right tables scope c.args.formula.now c.in-Exists.variables c.in-Exists.inner c.in-Exists.is)) c.compile_quantified.result c.compile_quantified.ensures

pub compile_condition-returns-in-Forall : goal.compile_condition-returns-in-Forall
compile_condition-returns-in-Forall g t c =
    let tables = g.L.Lookups.tables c.args.lookups.now in
    let scope = scope_view c.args.scope.now in
    weaker _ _ (λ k is. is ∙ (ap (λ f. nested value.universal (value.known true) tables (map typed_view c.in-Forall.variables.items) (condition_of tables (formula_view f)) scope) c.deref-in-Forall.ensures
    ∙ forall_right tables scope c.args.formula.now c.in-Forall.variables c.in-Forall.inner c.in-Forall.is)) c.compile_quantified-in-Forall.result c.compile_quantified-in-Forall.ensures

pub add_conditions-loop-formula-preserved : goal.add_conditions-loop-formula-preserved
add_conditions-loop-formula-preserved g t c =
    one_item condition_view (λ f. condition_of (g.L.Lookups.tables c.args.lookups.now) (formula_view f) (scope_view c.args.scope.now)) c.args.conditions.now.items c.loop-formula.conditions.items c.push_made.new.list.items c.compile_condition.result c.args.formulas.now.items c.deref-formula-items.result.now c.loop-formula.formula-index c.formula-item.result
    c.in_ok-push_made.ensures c.compile_condition.ensures c.deref-formula-items.ensures.value c.loop-formula-test.true c.formula-item.is c.loop-formula.invariant

pub compile_quantified-returns : goal.compile_quantified-returns
compile_quantified-returns g t c =
    let b = c.in_ok-binder in
    let nothing = value.known true in
    let tables = g.L.Lookups.tables c.args.lookups.now in
    let body = condition_of tables (formula_view c.args.inner.now) in
    let scope = scope_view c.args.scope.now in
    let slots = b.binder.slots.items in
    let inner = c.if-binder.inner in
    around_right condition_view nothing body scope slots b.binder.closed (cond c.args.some value.existential value.universal) tables c.args.variables.now.items b.binder.ranges.items b.ensures.slots b.ensures.ranges b.ensures.closed inner c.quantified_by.result
    (elim c.if-binder.branch [
      | compile_quantified-then-binder w ↦ inside_closed condition_view nothing body scope slots b.binder.closed inner (Ok (Known true)) w.if-binder.true w.inner-is (view_known (Known true) true refl)
      | compile_quantified-else-binder w ↦ inside_open condition_view nothing body scope slots b.binder.closed inner w.compile_condition-inner.result w.deref.result.now w.deref.ensures.value w.if-binder.false w.inner-is w.compile_condition-inner.ensures
    ]) c.quantified_by.ensures

pub compile_condition-returns-in_ok-places-in-Atom : goal.compile_condition-returns-in_ok-places-in-Atom
compile_condition-returns-in_ok-places-in-Atom g t c =
    let tables = g.L.Lookups.tables c.args.lookups.now in
    let scope = scope_view c.args.scope.now in
    let atom = c.in-Atom.atom in
    view_atom c.predicate_number-predicate.result c.in_ok-places-in-Atom.places
    ∙ (ap (λ n. value.atom n (map place_view c.in_ok-places-in-Atom.places.items)) (c.predicate_number-predicate.ensures ∙ ap (number_in tables.predicates) c.as_bytes.ensures.value)
    ∙ (ap (value.atom (number_in tables.predicates atom.predicate)) (c.in_ok-places-in-Atom.ensures ∙ ap (λ ts. places_of tables scope (map term_view ts)) c.deref.ensures.value)
    ∙ atom_right tables scope c.args.formula.now atom c.in-Atom.is))

pub compile_condition-returns-in_ok-boxed-in-Not : goal.compile_condition-returns-in_ok-boxed-in-Not
compile_condition-returns-in_ok-boxed-in-Not g t c =
    let tables = g.L.Lookups.tables c.args.lookups.now in
    let scope = scope_view c.args.scope.now in
    let inner = c.in_ok-boxed-in-Not.field-0 in
    view_not inner
    ∙ (ap value.negation (ok_known _ c.compile_condition-inner.result inner.value c.in_ok-boxed-in-Not.ensures c.compile_condition-inner.ensures ∙ ap (λ f. condition_of tables (formula_view f) scope) c.deref-in-Not.ensures)
    ∙ not_right tables scope c.args.formula.now c.in-Not.inner c.in-Not.is)

pub compile_condition-returns-in_ok-first-in-Imply : goal.compile_condition-returns-in_ok-first-in-Imply
compile_condition-returns-in_ok-first-in-Imply g t c =
    let tables = g.L.Lookups.tables c.args.lookups.now in
    let scope = scope_view c.args.scope.now in
    let first = c.in_ok-first-in-Imply.first in
    let second = c.in_ok-first-in-Imply.second in
    view_imply first second
    ∙ (ap (λ k. value.implication k (condition_view second.value)) (ok_known _ c.compile_condition-first.result first.value c.in_ok-first-in-Imply.ensures.first c.compile_condition-first.ensures ∙ ap (λ f. condition_of tables (formula_view f) scope) c.deref-in-Imply.ensures)
    ∙ (ap (value.implication (condition_of tables (formula_view c.in-Imply.first.value) scope)) (ok_known _ c.compile_condition-second.result second.value c.in_ok-first-in-Imply.ensures.second c.compile_condition-second.ensures ∙ ap (λ f. condition_of tables (formula_view f) scope) c.deref-in-Imply-2.ensures)
    ∙ imply_right tables scope c.args.formula.now c.in-Imply.first c.in-Imply.second c.in-Imply.is))

pub compile_parts-returns : goal.compile_parts-returns
compile_parts-returns g t c =
    let node = cond c.args.all value.conjunction value.disjunction in
    let all = map (λ f. condition_of (g.L.Lookups.tables c.args.lookups.now) (formula_view f) (scope_view c.args.scope.now)) c.args.formulas.now.items in
    let made = c.add_conditions-made.new.conditions in
    let is : condition_view c.if-all.and ≡ node (conditions_view made.items) = elim c.if-all.branch [
      | compile_parts-then-all w ↦ ap condition_view w.and-is ∙ (view_and made ∙ ap (λ b. cond b value.conjunction value.disjunction (conditions_view made.items)) (sym w.if-all.true))
      | compile_parts-else-all w ↦ ap condition_view w.and-is ∙ (view_or made ∙ ap (λ b. cond b value.conjunction value.disjunction (conditions_view made.items)) (sym w.if-all.false))
    ] in
    rw c.and.ensures (after c.add_conditions-made.result _ _ (λ k. condition_view k ≡ node (value.conditions_of all)) c.add_conditions-made.ensures
    (λ added. is ∙ ap (λ l. node (value.conditions_of l)) (added ∙ ap (λ l. map condition_view l ++ all) c.new-conditions.ensures.items)))
