-- An effect without a function term in an increase adds no cost of a function of objects.
use Rattle.std.proofs.Common.{◌≡◌, ℕ, Bool, true, false, ◌||◌, cond, List, [], ◌∷◌, refl, sym, ap, ◌∙◌}
use Rattle.pddl_formula.specs.TypedLists.{TypedValue}
use Rattle.pddl_effect.specs.Effects as effects
use Rattle.pddl_effect.specs.Effects.{AmountValue, EffectValue, EffectValues}
use Rattle.pddl_task.proofs.Lists.{none_of, none_left, none_right}
use Rattle.pddl_state.specs.Atoms.{AtomValue}
use Rattle.pddl_compiled.specs.Compiled.{ChangeValue, both, each, no_changes}
use Rattle.pddl_compiled.specs.CompiledMeaning.{FrameValue}
use Rattle.pddl_compiled.specs.Compiler.{ScopeValue, binder_of, onto, wrapped, nested, increase_of, change_of, changes_of_all}
use Rattle.pddl_compiled.specs.Tables.{Tables}
use Rattle.pddl_plan_tables.specs.ChangeCosts.{some_cost, some_cost_in, HasSameCosts, is_function, has_function, some_has_function}

module _ (t : Tables) (test : AtomValue → Bool) where
  free_wrapped : (rs : List (List ℕ)) (c : ChangeValue) (env : FrameValue) → ((en : FrameValue) → some_cost c test en ≡ false) → some_cost (wrapped each rs c) test env ≡ false
  free_wrapped [] c env free = free env
  free_wrapped (r ∷ rs) c env free = none_of (λ o. some_cost (wrapped each rs c) test (o ∷ env)) r (λ o _. free_wrapped rs c (o ∷ env) free)

  free_unless : (closed : Bool) (c : ChangeValue) (env : FrameValue) → some_cost c test env ≡ false → some_cost (cond closed (both no_changes) c) test env ≡ false
  free_unless true c env h = refl
  free_unless false c env h = h

  free_nested : (xs : List TypedValue) (body : ScopeValue → ChangeValue) (scope : ScopeValue) (env : FrameValue) → ((sc : ScopeValue) (en : FrameValue) → some_cost (body sc) test en ≡ false)
      → some_cost (nested each (both no_changes) t xs body scope) test env ≡ false
  free_nested xs body scope env free =
      let b = binder_of t.range xs in
      free_wrapped b.ranges (cond b.closed (both no_changes) (body (onto b.slots scope))) env (λ en. free_unless b.closed (body (onto b.slots scope)) en (free (onto b.slots scope) en))

  amount_free : (a : AmountValue) (scope : ScopeValue) (env : FrameValue) → is_function a ≡ false → some_cost (increase_of t a scope) test env ≡ false
  amount_free (effects.number n) scope env h = refl
  amount_free (effects.function f) scope env h = cc

  mutual
    free : (e : EffectValue) (scope : ScopeValue) (env : FrameValue) → has_function e ≡ false → some_cost (change_of t e scope) test env ≡ false
    free (effects.conjunction es) scope env h = all_free es scope env h
    free (effects.universal xs e) scope env h = free_nested xs (change_of t e) scope env (λ sc en. free e sc en h)
    free (effects.conditional f e) scope env h = free e scope env h
    free (effects.addition a) scope env h = refl
    free (effects.deletion a) scope env h = refl
    free (effects.increase a) scope env h = amount_free a scope env h

    all_free : (es : EffectValues) (scope : ScopeValue) (env : FrameValue) → some_has_function es ≡ false → some_cost_in (changes_of_all t es scope) test env ≡ false
    all_free effects.no_effects scope env h = refl
    all_free (effects.effect e es) scope env h =
        ap (λ b. b || some_cost_in (changes_of_all t es scope) test env) (free e scope env (none_left (has_function e) (some_has_function es) h))
        ∙ all_free es scope env (none_right (has_function e) (some_has_function es) h)

-- so a change that does nothing has the same costs
pub none_to_find : (t : Tables) (e : EffectValue) (scope : ScopeValue) → has_function e ≡ false → HasSameCosts (both no_changes) (change_of t e scope)
none_to_find t e scope h = λ test env. sym (free t test e scope env h)
