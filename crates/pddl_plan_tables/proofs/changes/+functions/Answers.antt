use Rattle.std.proofs.Common.{refl, sym, ap, ◌∙◌, inl, inr, arith, length, map}
use Rattle.std.proofs.lemmas.List.{at_drop_all}
use Rattle.pddl_effect.specs.Effects.{effect_view, effects_of}
use Rattle.pddl_effect.proofs.Views.{view_and, view_forall, view_when, view_add, view_del, view_increase}
use Rattle.pddl_plan_tables.specs.ChangeCosts.{has_function, some_has_function}
use Rattle.pddl_plan_tables.proofs.SomeEffects.{holds_at, fails_at}
use Rattle.pddl_plan_tables.proofs.changes.+functions.Goals as goal

pub some_has_function-returns-then-has_function : goal.some_has_function-returns-then-has_function
some_has_function-returns-then-has_function g t c =
    holds_at has_function some_has_function (λ e es. refl) c.deref-effect-items.result.now c.args.effects.now.items c.loop-effect.effect-index c.effect-item.result _
    c.deref-effect-items.ensures.value c.loop-effect-test.true c.effect-item.is c.loop-effect.invariant (sym c.has_function.ensures ∙ c.if-has_function.true)

pub some_has_function-loop-effect-preserved : goal.some_has_function-loop-effect-preserved
some_has_function-loop-effect-preserved g t c =
    fails_at has_function some_has_function (λ e es. refl) c.deref-effect-items.result.now c.args.effects.now.items c.loop-effect.effect-index c.effect-item.result _
    c.deref-effect-items.ensures.value c.loop-effect-test.true c.effect-item.is c.loop-effect.invariant (sym c.has_function.ensures ∙ c.if-has_function.false)

pub has_function-returns-in-And : goal.has_function-returns-in-And
has_function-returns-in-And g t c = c.some_has_function.ensures ∙ sym (ap (λ e. has_function (effect_view e)) c.in-And.is ∙ ap has_function (view_and c.in-And.parts))

pub has_function-returns-in-Forall : goal.has_function-returns-in-Forall
has_function-returns-in-Forall g t c =
    let inner = c.in-Forall.inner in
    c.has_function.ensures ∙ (ap (λ e. has_function (effect_view e)) c.deref.ensures
    ∙ elim c.in-Forall.is [
      | inl h ↦ sym (ap (λ e. has_function (effect_view e)) h.1 ∙ ap has_function (view_forall h.0 inner))
      | inr h ↦ sym (ap (λ e. has_function (effect_view e)) h.1 ∙ ap has_function (view_when h.0 inner))
    ])

pub has_function-returns-in-Add : goal.has_function-returns-in-Add
has_function-returns-in-Add g t c =
    elim c.in-Add.is [
      | inl h ↦ sym (ap (λ e. has_function (effect_view e)) h.1 ∙ ap has_function (view_add h.0))
      | inr h ↦ sym (ap (λ e. has_function (effect_view e)) h.1 ∙ ap has_function (view_del h.0))
    ]

pub has_function-returns-in-Increase : goal.has_function-returns-in-Increase
has_function-returns-in-Increase g t c = c.is_function.ensures ∙ sym (ap (λ e. has_function (effect_view e)) c.in-Increase.is ∙ ap has_function (view_increase c.in-Increase.amount))

pub some_has_function-returns : goal.some_has_function-returns
some_has_function-returns g t c =
    let items = c.args.effects.now.items in
    sym (at_drop_all (λ es. some_has_function (effects_of (map effect_view es))) items c.loop-effect.effect-index (omega (arith, c.loop-effect-test.false, ap length c.deref-effect-items.ensures.value))) ∙ c.loop-effect.invariant
