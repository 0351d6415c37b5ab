-- Tests of what formulas and effects speak of: whether some ground atom passes, told part by part without listing them.
use Rattle.std.proofs.Common.{◌≡◌, Bool, true, false, ◌||◌, ◌&&◌, cond, List, [], ◌∷◌, ◌++◌, map, refl, sym, ap, ◌∙◌, arith}
use Rattle.std.specs.List.{list_any, flat_map}
use Rattle.std.proofs.lemmas.List.Folds.{list_any-append}
use Rattle.pddl_formula.specs.TypedLists.{TypedValue}
use Rattle.pddl_formula.specs.Formulas.{FormulaValue, FormulaValues, atom, equal, negation, implication, conjunction, disjunction, existential, universal, no_formulas, formula}
use Rattle.pddl_effect.specs.Effects as effects
use Rattle.pddl_effect.specs.Effects.{EffectValue, EffectValues, conditional, addition, deletion, increase, no_effects, effect}
use Rattle.pddl_problem.specs.Inits.{GroundValue}
use Rattle.pddl_task.specs.Names.{Name}
use Rattle.pddl_task.specs.Valuations.{Valuation, grounded, some_valuation, over_valuations}
use Rattle.pddl_meaning.specs.Worlds.{Atoms, no_atoms}
use Rattle.pddl_meaning.specs.Truth.{truth}
use Rattle.pddl_meaning.specs.Effects.{fired, all_fired}
use Rattle.pddl_task.specs.Known.{formula_atoms, formulas_atoms, Spoken, is_read, tested, effect_atoms, effects_atoms}

-- some ground atom in the expansion of a formula, or of formulas in turn, passes a test; fit says which objects fit a type
abbrev mutual
  pub some_read : (List Name → List Name) → FormulaValue → (GroundValue → Bool) → Valuation → Bool
  some_read fit (atom a) test v = test (grounded v a)
  some_read fit (equal t u) test v = false
  some_read fit (negation f) test v = some_read fit f test v
  some_read fit (implication f g) test v = some_read fit f test v || some_read fit g test v
  some_read fit (conjunction fs) test v = some_read_in fit fs test v
  some_read fit (disjunction fs) test v = some_read_in fit fs test v
  some_read fit (existential xs f) test v = some_valuation fit xs (some_read fit f test) v
  some_read fit (universal xs f) test v = some_valuation fit xs (some_read fit f test) v

  pub some_read_in : (List Name → List Name) → FormulaValues → (GroundValue → Bool) → Valuation → Bool
  some_read_in fit no_formulas test v = false
  some_read_in fit (formula f fs) test v = some_read fit f test v || some_read_in fit fs test v

-- some ground atom of an effect, or of effects in turn, passes the test for its kind, read in a condition, added or deleted,
-- whatever holds
abbrev mutual
  pub some_of : (List Name → List Name) → EffectValue → (GroundValue → Bool) → (GroundValue → Bool) → (GroundValue → Bool) → Valuation → Bool
  some_of fit (effects.conjunction es) read added deleted v = some_of_all fit es read added deleted v
  some_of fit (effects.universal xs e) read added deleted v = some_valuation fit xs (some_of fit e read added deleted) v
  some_of fit (conditional f e) read added deleted v = some_read fit f read v || some_of fit e read added deleted v
  some_of fit (addition a) read added deleted v = added (grounded v a)
  some_of fit (deletion a) read added deleted v = deleted (grounded v a)
  some_of fit (increase a) read added deleted v = false

  pub some_of_all : (List Name → List Name) → EffectValues → (GroundValue → Bool) → (GroundValue → Bool) → (GroundValue → Bool) → Valuation → Bool
  some_of_all fit no_effects read added deleted v = false
  some_of_all fit (effect e es) read added deleted v = some_of fit e read added deleted v || some_of_all fit es read added deleted v

-- Some ground atom that an effect adds or deletes in a state passes the test for its kind. Effects under `when` fire where its
-- condition is true in the state (Fox and Long).
abbrev mutual
  pub some_fired : (List Name → List Name) → Atoms → EffectValue → Atoms → Atoms → Valuation → Bool
  some_fired fit s (effects.conjunction es) added deleted v = some_fired_in fit s es added deleted v
  some_fired fit s (effects.universal xs e) added deleted v = some_valuation fit xs (some_fired fit s e added deleted) v
  some_fired fit s (conditional f e) added deleted v = truth fit s f v && some_fired fit s e added deleted v
  some_fired fit s (addition a) added deleted v = added (grounded v a)
  some_fired fit s (deletion a) added deleted v = deleted (grounded v a)
  some_fired fit s (increase a) added deleted v = false

  pub some_fired_in : (List Name → List Name) → Atoms → EffectValues → Atoms → Atoms → Valuation → Bool
  some_fired_in fit s no_effects added deleted v = false
  some_fired_in fit s (effect e es) added deleted v = some_fired fit s e added deleted v || some_fired_in fit s es added deleted v

any_map : {X Y : Type 0} (test : Y → Bool) (f : X → Y) (xs : List X) → list_any test (map f xs) ≡ list_any (λ x. test (f x)) xs
any_map test f [] = refl
any_map test f (x ∷ xs) = ap (λ b. test (f x) || b) (any_map test f xs)

any_flat : {X Y : Type 0} (test : X → Bool) (f : Y → List X) (os : List Y) → list_any test (flat_map f os) ≡ list_any (λ o. list_any test (f o)) os
any_flat test f [] = refl
any_flat test f (o ∷ os) = list_any-append test (f o) (flat_map f os) ∙ ap (λ b. list_any test (f o) || b) (any_flat test f os)

or_false : (b : Bool) → b ≡ (b || false)
or_false b = grind arith

-- over what expansions list, the objects that fit each type given
module _ (fit : List Name → List Name) where
  any_listed : {X : Type 0} (test : X → Bool) (xs : List TypedValue) (f : Valuation → List X) (v : Valuation) → some_valuation fit xs (λ w. list_any test (f w)) v ≡ list_any test (over_valuations fit xs f v)
  any_listed test [] f v = refl
  any_listed test (x ∷ xs) f v =
      ap (λ q. list_any q (fit x.of)) (λ i o. any_listed test xs f ((x.item, o) ∷ v) i) ∙ sym (any_flat test (λ o. over_valuations fit xs f ((x.item, o) ∷ v)) (fit x.of))

  module _ (test : GroundValue → Bool) where
    mutual
      pub reads_are : (f : FormulaValue) (v : Valuation) → some_read fit f test v ≡ list_any test (formula_atoms fit f v)
      reads_are (atom a) v = or_false (test (grounded v a))
      reads_are (equal t u) v = refl
      reads_are (negation f) v = reads_are f v
      reads_are (implication f g) v =
          let left : some_read fit f test v ≡ list_any test (formula_atoms fit f v) = reads_are f v in
          let right : some_read fit g test v ≡ list_any test (formula_atoms fit g v) = reads_are g v in
          let both : list_any test (formula_atoms fit f v ++ formula_atoms fit g v) ≡ (list_any test (formula_atoms fit f v) || list_any test (formula_atoms fit g v)) = list_any-append test (formula_atoms fit f v) (formula_atoms fit g v) in
          cc
      reads_are (conjunction fs) v = all_reads_are fs v
      reads_are (disjunction fs) v = all_reads_are fs v
      reads_are (existential xs f) v = ap (λ q. some_valuation fit xs q v) (λ i w. reads_are f w i) ∙ any_listed test xs (formula_atoms fit f) v
      reads_are (universal xs f) v = ap (λ q. some_valuation fit xs q v) (λ i w. reads_are f w i) ∙ any_listed test xs (formula_atoms fit f) v

      all_reads_are : (fs : FormulaValues) (v : Valuation) → some_read_in fit fs test v ≡ list_any test (formulas_atoms fit fs v)
      all_reads_are no_formulas v = refl
      all_reads_are (formula f fs) v =
          let left : some_read fit f test v ≡ list_any test (formula_atoms fit f v) = reads_are f v in
          let right : some_read_in fit fs test v ≡ list_any test (formulas_atoms fit fs v) = all_reads_are fs v in
          let both : list_any test (formula_atoms fit f v ++ formulas_atoms fit fs v) ≡ (list_any test (formula_atoms fit f v) || list_any test (formulas_atoms fit fs v)) = list_any-append test (formula_atoms fit f v) (formulas_atoms fit fs v) in
          cc

  module _ (read added deleted : GroundValue → Bool) where
    abbrev passes : Spoken → Bool
    passes = tested read added deleted

    mutual
      pub spoken_are : (e : EffectValue) (v : Valuation) → some_of fit e read added deleted v ≡ list_any passes (effect_atoms fit e v)
      spoken_are (effects.conjunction es) v = all_spoken_are es v
      spoken_are (effects.universal xs e) v = ap (λ q. some_valuation fit xs q v) (λ i w. spoken_are e w i) ∙ any_listed passes xs (effect_atoms fit e) v
      spoken_are (conditional f e) v =
          let left : some_read fit f read v ≡ list_any read (formula_atoms fit f v) = reads_are read f v in
          let mapped : list_any passes (map is_read (formula_atoms fit f v)) ≡ list_any read (formula_atoms fit f v) = any_map passes is_read (formula_atoms fit f v) in
          let right : some_of fit e read added deleted v ≡ list_any passes (effect_atoms fit e v) = spoken_are e v in
          let both : list_any passes (map is_read (formula_atoms fit f v) ++ effect_atoms fit e v) ≡ (list_any passes (map is_read (formula_atoms fit f v)) || list_any passes (effect_atoms fit e v)) = list_any-append passes (map is_read (formula_atoms fit f v)) (effect_atoms fit e v) in
          cc
      spoken_are (addition a) v = or_false (added (grounded v a))
      spoken_are (deletion a) v = or_false (deleted (grounded v a))
      spoken_are (increase a) v = refl

      all_spoken_are : (es : EffectValues) (v : Valuation) → some_of_all fit es read added deleted v ≡ list_any passes (effects_atoms fit es v)
      all_spoken_are no_effects v = refl
      all_spoken_are (effect e es) v =
          let left : some_of fit e read added deleted v ≡ list_any passes (effect_atoms fit e v) = spoken_are e v in
          let right : some_of_all fit es read added deleted v ≡ list_any passes (effects_atoms fit es v) = all_spoken_are es v in
          let both : list_any passes (effect_atoms fit e v ++ effects_atoms fit es v) ≡ (list_any passes (effect_atoms fit e v) || list_any passes (effects_atoms fit es v)) = list_any-append passes (effect_atoms fit e v) (effects_atoms fit es v) in
          cc

  -- what fires in a state
  module _ (s added deleted : Atoms) where
    abbrev fires : Spoken → Bool
    fires = tested no_atoms added deleted

    only : (b : Bool) (xs : List Spoken) → (b && list_any fires xs) ≡ list_any fires (cond b xs [])
    only true xs = refl
    only false xs = refl

    mutual
      pub fired_are : (e : EffectValue) (v : Valuation) → some_fired fit s e added deleted v ≡ list_any fires (fired fit s e v)
      fired_are (effects.conjunction es) v = all_fired_are es v
      fired_are (effects.universal xs e) v = ap (λ q. some_valuation fit xs q v) (λ i w. fired_are e w i) ∙ any_listed fires xs (fired fit s e) v
      fired_are (conditional f e) v = ap (λ b. truth fit s f v && b) (fired_are e v) ∙ only (truth fit s f v) (fired fit s e v)
      fired_are (addition a) v = or_false (added (grounded v a))
      fired_are (deletion a) v = or_false (deleted (grounded v a))
      fired_are (increase a) v = refl

      all_fired_are : (es : EffectValues) (v : Valuation) → some_fired_in fit s es added deleted v ≡ list_any fires (all_fired fit s es v)
      all_fired_are no_effects v = refl
      all_fired_are (effect e es) v =
          let left : some_fired fit s e added deleted v ≡ list_any fires (fired fit s e v) = fired_are e v in
          let right : some_fired_in fit s es added deleted v ≡ list_any fires (all_fired fit s es v) = all_fired_are es v in
          let both : list_any fires (fired fit s e v ++ all_fired fit s es v) ≡ (list_any fires (fired fit s e v) || list_any fires (all_fired fit s es v)) = list_any-append fires (fired fit s e v) (all_fired fit s es v) in
          cc
