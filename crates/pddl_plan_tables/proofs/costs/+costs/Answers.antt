use Rattle.std.proofs.Common.{ℕ, Bool, not, arith, ◌≡◌, get_or, ◌∷◌, refl, sym, ap, ◌∙◌, subst, inl, inr}
use Rattle.std.specs.Prelude.{IfOk, is_some}
use Rattle.std.specs.List.{list_any}
use Rattle.std.proofs.lemmas.List.{at_drop_all}
use Rattle.pddl_compiled.specs.Compiled.{ChangeValue}
use Rattle.pddl_compiled.specs.Views.{change_view, changes_view, frame_view}
use Rattle.pddl_evaluation.proofs.Views.{view-Each, view-Both, view-When, view-Add, view-Del, view-Increase, view-IncreaseBy}
use Rattle.pddl_evaluation.proofs.More.{front, front_number, any_more, some_one}
use Rattle.pddl_tables.specs.Lookups.{price_in}
use Rattle.pddl_plan_tables.specs.ChangeCosts.{is_unpriced, some_cost, some_cost_in}
use Rattle.pddl_plan_tables.proofs.costs.+costs.Goals as goal

pub some_costless-returns-in-And : goal.some_costless-returns-in-And
some_costless-returns-in-And g t c =
    let seen = view-Both c.args.change.now c.in-And.parts c.deref.result.now c.in-And.is c.deref.ensures.value in
    subst (λ v. IfOk c.some_costless_in.result (λ yes. yes ≡ some_cost v (is_unpriced (price_in c.args.prices.now)) (frame_view c.args.frame.now))) (sym seen) c.some_costless_in.ensures

pub some_costless-loop-object-init : goal.some_costless-loop-object-init
some_costless-loop-object-init g t c =
    ap (λ v. some_cost v (is_unpriced (price_in c.args.prices.now)) (frame_view c.args.frame.now))
    (view-Each c.args.change.now c.in-Forall.range c.in-Forall.inner c.deref-object-items.result.now c.in-Forall.inner.value c.in-Forall.is c.deref-object-items.ensures.value refl)

pub some_costless-loop-object-preserved : goal.some_costless-loop-object-preserved
some_costless-loop-object-preserved g t c =
    let test = is_unpriced (price_in c.args.prices.now) in
    let env = frame_view c.args.frame.now in
    let costs : ℕ → Bool = λ o. some_cost (change_view c.in-Forall.inner.value) test (o ∷ env) in
    let items = c.deref-object-items.result.now in
    let i = c.loop-object.object-index in
    let next = front_number items i c.loop-object-test.true in
    let none = c.in_ok-some_costless-in-Forall.ensures ∙ ap (λ k. some_cost (change_view k) test (get_or items i 0 ∷ env)) c.deref-in-loop-object.ensures in
    c.loop-object.invariant ∙ sym (any_more (list_any costs) costs next (λ y ys. refl) _ (sym c.if-branch.false ∙ none) refl)

pub some_costless-returns-in-When : goal.some_costless-returns-in-When
some_costless-returns-in-When g t c =
    let seen = view-When c.args.change.now c.in-When.field-0 c.in-When.inner c.deref-in-When.result.now c.in-When.is c.deref-in-When.ensures in
    subst (λ v. IfOk c.some_costless-in-When.result (λ yes. yes ≡ some_cost v (is_unpriced (price_in c.args.prices.now)) (frame_view c.args.frame.now))) (sym seen) c.some_costless-in-When.ensures

pub some_costless-returns-in-Add : goal.some_costless-returns-in-Add
some_costless-returns-in-Add g t c =
    let change = c.args.change.now in
    let costs : ChangeValue → Bool = λ v. some_cost v (is_unpriced (price_in c.args.prices.now)) (frame_view c.args.frame.now) in
    elim c.in-Add.is [
      | inl h ↦ sym (ap costs (view-Add change h.0 h.1 h.1.items h.2 refl))
      | inr r ↦ elim r [
        | inl h ↦ sym (ap costs (view-Del change h.0 h.1 h.1.items h.2 refl))
        | inr h ↦ sym (ap costs (view-IncreaseBy change h.0 h.1))
      ]
    ]

pub some_costless_in-loop-change-preserved : goal.some_costless_in-loop-change-preserved
some_costless_in-loop-change-preserved g t c =
    let test = is_unpriced (price_in c.args.prices.now) in
    let env = frame_view c.args.frame.now in
    let next = front c.args.changes.now c.loop-change.change-index c.change-item.result c.loop-change-test.true c.change-item.is in
    any_more (λ cs. some_cost_in (changes_view cs) test env) (λ k. some_cost (change_view k) test env) next (λ y ys. refl) _ (sym c.if-branch.false ∙ c.in_ok-some_costless.ensures) c.loop-change.invariant

pub some_costless_in-returns-then-branch : goal.some_costless_in-returns-then-branch
some_costless_in-returns-then-branch g t c =
    let test = is_unpriced (price_in c.args.prices.now) in
    let env = frame_view c.args.frame.now in
    let next = front c.args.changes.now c.loop-change.change-index c.change-item.result c.loop-change-test.true c.change-item.is in
    some_one (λ cs. some_cost_in (changes_view cs) test env) (λ k. some_cost (change_view k) test env) next (λ y ys. refl) _ (sym c.if-branch.true ∙ c.in_ok-some_costless.ensures) c.loop-change.invariant

pub some_costless_in-returns : goal.some_costless_in-returns
some_costless_in-returns g t c =
    sym (at_drop_all (λ cs. some_cost_in (changes_view cs) (is_unpriced (price_in c.args.prices.now)) (frame_view c.args.frame.now)) c.args.changes.now c.loop-change.change-index c.loop-change-test.false) ∙ c.loop-change.invariant

pub some_costless-returns-after-loop-object : goal.some_costless-returns-after-loop-object
some_costless-returns-after-loop-object g t c =
    let test = is_unpriced (price_in c.args.prices.now) in
    let env = frame_view c.args.frame.now in
    sym (c.loop-object.invariant ∙ at_drop_all (list_any (λ o. some_cost (change_view c.in-Forall.inner.value) test (o ∷ env))) c.deref-object-items.result.now c.loop-object.object-index c.loop-object-test.false)

pub some_costless-returns-then-branch : goal.some_costless-returns-then-branch
some_costless-returns-then-branch g t c =
    let test = is_unpriced (price_in c.args.prices.now) in
    let env = frame_view c.args.frame.now in
    let costs : ℕ → Bool = λ o. some_cost (change_view c.in-Forall.inner.value) test (o ∷ env) in
    let items = c.deref-object-items.result.now in
    let i = c.loop-object.object-index in
    let next = front_number items i c.loop-object-test.true in
    let some = c.in_ok-some_costless-in-Forall.ensures ∙ ap (λ k. some_cost (change_view k) test (get_or items i 0 ∷ env)) c.deref-in-loop-object.ensures in
    some_one (list_any costs) costs next (λ y ys. refl) _ (sym c.if-branch.true ∙ some) refl ∙ sym c.loop-object.invariant

turned : (a b : Bool) → a ≡ not b → b ≡ not a
turned a b is = grind arith

pub some_costless-returns-in_ok-fill-in-Increase : goal.some_costless-returns-in_ok-fill-in-Increase
some_costless-returns-in_ok-fill-in-Increase g t c =
    let prices = c.args.prices.now in
    let seen = view-Increase c.args.change.now c.in-Increase.function c.in-Increase.places c.deref-in-Increase.result.now c.in-Increase.is c.deref-in-Increase.ensures.value in
    turned _ _ c.is_none.ensures
    ∙ (ap (λ o. not (is_some o)) (c.cost_of.ensures ∙ ap (price_in prices) c.in_ok-fill-in-Increase.ensures)
    ∙ sym (ap (λ v. some_cost v (is_unpriced (price_in prices)) (frame_view c.args.frame.now)) seen))
