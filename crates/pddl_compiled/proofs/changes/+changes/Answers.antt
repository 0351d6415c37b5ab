use Rattle.std.proofs.Common.{◌≡◌, ◌++◌, map, ap, ◌∙◌}
use Rattle.std.specs.Prelude.{Ok}
use Rattle.pddl_formula.specs.TypedLists.{typed_view}
use Rattle.pddl_formula.specs.Formulas.{formula_view}
use Rattle.pddl_effect.specs.Effects.{effect_view}
use Rattle.pddl_compiled.specs.Compiled as value
use Rattle.pddl_compiled.specs.Compiler.{nested, condition_of, change_of}
use Rattle.pddl_compiled.specs.Views.{change_view, changes_view}
use Rattle.pddl_compiled.specs.Scopes.{scope_view}
use Rattle.pddl_compiled.specs.declared.compiled.Change.TheVariants as changes
use Rattle.pddl_compiled.proofs.Binders.{after, weaker, ok_known}
use Rattle.pddl_compiled.proofs.Rows.{view_both, view_when}
use Rattle.pddl_compiled.proofs.Cases.{both_right, each_right, when_right, add_right, del_right, increase_right}
use Rattle.pddl_compiled.proofs.Quantifiers.{inside_closed, inside_open, around_right, one_item, no_item}
use Rattle.pddl_compiled.proofs.changes.+changes.Goals.{compile_quantified-then-binder, compile_quantified-else-binder}
use Rattle.pddl_compiled.proofs.changes.+changes.Goals as goal

pub add_changes-returns : goal.add_changes-returns
add_changes-returns g t c =
    no_item change_view (λ f. change_of (g.L.Lookups.tables c.args.lookups.now) (effect_view f) (scope_view c.args.scope.now)) c.args.changes.now.items c.loop-effect.changes.items c.args.effects.now.items c.deref-effect-items.result.now c.loop-effect.effect-index c.deref-effect-items.ensures.value c.loop-effect-test.false c.loop-effect.invariant

pub compile_change-returns-in-Forall : goal.compile_change-returns-in-Forall
compile_change-returns-in-Forall g t c =
    let tables = g.L.Lookups.tables c.args.lookups.now in
    let scope = scope_view c.args.scope.now in
    weaker _ _ (λ k is. is ∙ (ap (λ e. nested value.each (value.both value.no_changes) tables (map typed_view c.in-Forall.variables.items) (change_of tables (effect_view e)) scope) c.deref.ensures
    ∙ each_right tables scope c.args.effect.now c.in-Forall.variables c.in-Forall.inner c.in-Forall.is)) c.compile_quantified.result c.compile_quantified.ensures

pub compile_change-returns-in-Add : goal.compile_change-returns-in-Add
compile_change-returns-in-Add g t c =
    weaker _ _ (λ k is. is ∙ add_right (g.L.Lookups.tables c.args.lookups.now) (scope_view c.args.scope.now) c.args.effect.now c.in-Add.atom c.in-Add.is) c.atom_change.result c.atom_change.ensures

pub compile_change-returns-in-Del : goal.compile_change-returns-in-Del
compile_change-returns-in-Del g t c =
    weaker _ _ (λ k is. is ∙ del_right (g.L.Lookups.tables c.args.lookups.now) (scope_view c.args.scope.now) c.args.effect.now c.in-Del.atom c.in-Del.is) c.atom_change-in-Del.result c.atom_change-in-Del.ensures

pub compile_change-returns-in-Increase : goal.compile_change-returns-in-Increase
compile_change-returns-in-Increase g t c =
    weaker _ _ (λ k is. is ∙ increase_right (g.L.Lookups.tables c.args.lookups.now) (scope_view c.args.scope.now) c.args.effect.now c.in-Increase.amount c.in-Increase.is) c.increase_of.result c.increase_of.ensures

pub add_changes-loop-effect-preserved : goal.add_changes-loop-effect-preserved
add_changes-loop-effect-preserved g t c =
    one_item change_view (λ f. change_of (g.L.Lookups.tables c.args.lookups.now) (effect_view f) (scope_view c.args.scope.now)) c.args.changes.now.items c.loop-effect.changes.items c.push_made.new.list.items c.compile_change.result c.args.effects.now.items c.deref-effect-items.result.now c.loop-effect.effect-index c.effect-item.result
    c.in_ok-push_made.ensures c.compile_change.ensures c.deref-effect-items.ensures.value c.loop-effect-test.true c.effect-item.is c.loop-effect.invariant

pub compile_change-returns-in-And : goal.compile_change-returns-in-And
compile_change-returns-in-And g t c =
    let tables = g.L.Lookups.tables c.args.lookups.now in
    let scope = scope_view c.args.scope.now in
    let all = map (λ e. change_of tables (effect_view e) scope) c.in-And.parts.items in
    let changes = c.add_changes-made.new.changes in
    rw c.and.ensures (after c.add_changes-made.result _ _ (λ k. change_view k ≡ change_of tables (effect_view c.args.effect.now) scope) c.add_changes-made.ensures
    (λ added. view_both changes ∙ (ap value.both (ap value.changes_of (added ∙ ap (λ l. map change_view l ++ all) c.new-changes.ensures.items)) ∙ both_right tables scope c.args.effect.now c.in-And.parts c.in-And.is)))

pub compile_quantified-returns : goal.compile_quantified-returns
compile_quantified-returns g t c =
    let b = c.in_ok-binder in
    let nothing = value.both value.no_changes in
    let tables = g.L.Lookups.tables c.args.lookups.now in
    let body = change_of tables (effect_view c.args.inner.now) in
    let scope = scope_view c.args.scope.now in
    let slots = b.binder.slots.items in
    let inner = c.if-binder.inner in
    around_right change_view nothing body scope slots b.binder.closed value.each tables c.args.variables.now.items b.binder.ranges.items b.ensures.slots b.ensures.ranges b.ensures.closed inner c.for_each_of.result
    (elim c.if-binder.branch [
      | compile_quantified-then-binder w ↦ inside_closed change_view nothing body scope slots b.binder.closed inner (Ok (changes.And w.new.result)) w.if-binder.true w.inner-is (view_both w.new.result ∙ ap (λ cs. value.both (changes_view cs)) w.new.ensures.items)
      | compile_quantified-else-binder w ↦ inside_open change_view nothing body scope slots b.binder.closed inner w.compile_change-inner.result w.deref.result.now w.deref.ensures.value w.if-binder.false w.inner-is w.compile_change-inner.ensures
    ]) c.for_each_of.ensures

pub compile_change-returns-in_ok-condition-in-When : goal.compile_change-returns-in_ok-condition-in-When
compile_change-returns-in_ok-condition-in-When g t c =
    let tables = g.L.Lookups.tables c.args.lookups.now in
    let scope = scope_view c.args.scope.now in
    let condition = c.in_ok-condition-in-When.condition in
    let inner = c.in_ok-condition-in-When.inner in
    view_when condition inner
    ∙ (ap (λ k. value.conditional k (change_view inner.value)) (ok_known _ c.compile_condition-condition.result condition c.in_ok-condition-in-When.ensures.first c.compile_condition-condition.ensures)
    ∙ (ap (value.conditional (condition_of tables (formula_view c.in-When.condition) scope)) (ok_known _ c.compile_change-inner.result inner.value c.in_ok-condition-in-When.ensures.second c.compile_change-inner.ensures
    ∙ ap (λ e. change_of tables (effect_view e) scope) c.deref-in-When.ensures)
    ∙ when_right tables scope c.args.effect.now c.in-When.condition c.in-When.inner c.in-When.is))
