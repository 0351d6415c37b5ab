-- The law of frame: what a formula, an effect or a step does depends only on what it reads.
use Rattle.std.proofs.Common.{◌≡◌, ℕ, Bool, true, false, not, ◌||◌, cond, List, [], ◌∷◌, ◌++◌, map, refl, sym, ap, ◌∙◌, arith, inl, inr}
use Rattle.std.specs.Prelude.{Contains}
use Rattle.std.specs.List.{list_any, flat_map}
use Rattle.std.proofs.lemmas.List.Elements.{Contains-append_left, Contains-append_right, Contains-append_cases}
use Rattle.pddl_formula.specs.TypedLists.{TypedValue}
use Rattle.pddl_formula.specs.Formulas.{FormulaValue, FormulaValues, atom, equal, negation, implication, conjunction, disjunction, existential, universal, no_formulas, formula}
use Rattle.pddl_effect.specs.Effects as effects
use Rattle.pddl_effect.specs.Effects.{EffectValue, EffectValues, conditional, addition, deletion, increase, no_effects, effect}
use Rattle.pddl_domain.specs.Actions.{ActionValue}
use Rattle.pddl_task.specs.Names.{Name}
use Rattle.pddl_task.specs.Faults.{same_ground}
use Rattle.pddl_task.specs.Tasks.{TaskValue}
use Rattle.pddl_task.specs.Known.{formula_atoms, Spoken, is_read, tested, effect_atoms, effects_atoms}
use Rattle.pddl_task.specs.Valuations.{Valuation, grounded, giving, some_valuation, every_valuation, sum_valuations, over_valuations}
use Rattle.pddl_meaning.specs.Worlds.{Atoms, no_atoms, World, world_of}
use Rattle.pddl_meaning.specs.Truth.{truth, all_true, some_true, formula_reads}
use Rattle.pddl_meaning.specs.Effects.{effect_reads, fired, all_fired, effect_cost, effects_cost}
use Rattle.pddl_happenings.specs.Steps.{Agree, IsFramed}
use Rattle.pddl_meaning.specs.Steps.{applied, step_of}
use Rattle.pddl_task.proofs.Lists.{or_left, or_right, found_any, has_first, has_later}
use Rattle.pddl_meaning.proofs.SpokenTests.{some_read, some_read_in, some_of, some_of_all, reads_are, spoken_are}
use Rattle.pddl_meaning.proofs.Agreement.{any_agree, all_agree, sum_agree, same_itself}

-- what a formula, formulas in turn, an effect and effects in turn read, part by part
abbrev reads_in : (List Name → List Name) → FormulaValue → Valuation → Atoms
reads_in fit f v g = some_read fit f (same_ground g) v

abbrev all_read : (List Name → List Name) → FormulaValues → Valuation → Atoms
all_read fit fs v g = some_read_in fit fs (same_ground g) v

abbrev effect_read : (List Name → List Name) → EffectValue → Valuation → Atoms
effect_read fit e v g = some_of fit e (same_ground g) no_atoms no_atoms v

abbrev effects_read : (List Name → List Name) → EffectValues → Valuation → Atoms
effects_read fit es v g = some_of_all fit es (same_ground g) no_atoms no_atoms v

flat_agree : {X Y : Type 0} (p q : X → List Y) (xs : List X) → ((h : X) → Contains xs h → p h ≡ q h) → flat_map p xs ≡ flat_map q xs
flat_agree p q [] same = refl
flat_agree p q (x ∷ xs) same =
    let head : p x ≡ q x = same x (has_first x xs) in
    let tail : flat_map p xs ≡ flat_map q xs = flat_agree p q xs (λ h c. same h (has_later x xs h c)) in
    ap (λ ys. ys ++ flat_map p xs) head ∙ ap (λ zs. q x ++ zs) tail

module _ (fit : List Name → List Name) (s t : Atoms) where
  -- under a quantifier: r is what is read at a valuation, p and q are what is said in s and in t
  module _ {X : Type 0} (r : Valuation → Atoms) (p q : Valuation → X) (same : (v : Valuation) → Agree (r v) s t → p v ≡ q v) where
    agree_at : (x : TypedValue) (xs : List TypedValue) (v : Valuation) (o : Name) → Contains (fit x.of) o → Agree (λ g. some_valuation fit (x ∷ xs) (λ u. r u g) v) s t → Agree (λ g. some_valuation fit xs (λ u. r u g) ((x.item, o) ∷ v)) s t
    agree_at x xs v o c agree g h = agree g (found_any (λ e. some_valuation fit xs (λ u. r u g) ((x.item, e) ∷ v)) (fit x.of) o c h)

  some_frame : (r : Valuation → Atoms) (p q : Valuation → Bool) → ((v : Valuation) → Agree (r v) s t → p v ≡ q v) → (xs : List TypedValue) (v : Valuation) → Agree (λ g. some_valuation fit xs (λ u. r u g) v) s t → some_valuation fit xs p v ≡ some_valuation fit xs q v
  some_frame r p q same [] v agree = same v agree
  some_frame r p q same (x ∷ xs) v agree =
      any_agree _ _ (fit x.of) (λ o c. some_frame r p q same xs ((x.item, o) ∷ v) (agree_at r p q same x xs v o c agree))

  every_frame : (r : Valuation → Atoms) (p q : Valuation → Bool) → ((v : Valuation) → Agree (r v) s t → p v ≡ q v) → (xs : List TypedValue) (v : Valuation) → Agree (λ g. some_valuation fit xs (λ u. r u g) v) s t → every_valuation fit xs p v ≡ every_valuation fit xs q v
  every_frame r p q same [] v agree = same v agree
  every_frame r p q same (x ∷ xs) v agree =
      all_agree _ _ (fit x.of) (λ o c. every_frame r p q same xs ((x.item, o) ∷ v) (agree_at r p q same x xs v o c agree))

  sum_frame : (r : Valuation → Atoms) (p q : Valuation → ℕ) → ((v : Valuation) → Agree (r v) s t → p v ≡ q v) → (xs : List TypedValue) (v : Valuation) → Agree (λ g. some_valuation fit xs (λ u. r u g) v) s t → sum_valuations fit xs p v ≡ sum_valuations fit xs q v
  sum_frame r p q same [] v agree = same v agree
  sum_frame r p q same (x ∷ xs) v agree =
      sum_agree _ _ (fit x.of) (λ o c. sum_frame r p q same xs ((x.item, o) ∷ v) (agree_at r p q same x xs v o c agree))

  mutual
    truth_same : (f : FormulaValue) (v : Valuation) → Agree (reads_in fit f v) s t → truth fit s f v ≡ truth fit t f v
    truth_same (atom a) v agree = agree (grounded v a) (same_itself (grounded v a))
    truth_same (equal x y) v agree = refl
    truth_same (negation f) v agree = ap not (truth_same f v agree)
    truth_same (implication f g) v agree =
        let left : truth fit s f v ≡ truth fit t f v = truth_same f v (λ a h. agree a (or_left (reads_in fit f v a) (reads_in fit g v a) h)) in
        let right : truth fit s g v ≡ truth fit t g v = truth_same g v (λ a h. agree a (or_right (reads_in fit f v a) (reads_in fit g v a) h)) in
        cc
    truth_same (conjunction fs) v agree = all_true_frame fs v agree
    truth_same (disjunction fs) v agree = some_true_frame fs v agree
    truth_same (existential xs f) v agree = some_frame (reads_in fit f) (truth fit s f) (truth fit t f) (λ u. truth_same f u) xs v agree
    truth_same (universal xs f) v agree = every_frame (reads_in fit f) (truth fit s f) (truth fit t f) (λ u. truth_same f u) xs v agree

    all_true_frame : (fs : FormulaValues) (v : Valuation) → Agree (all_read fit fs v) s t → all_true fit s fs v ≡ all_true fit t fs v
    all_true_frame no_formulas v agree = refl
    all_true_frame (formula f fs) v agree =
        let head : truth fit s f v ≡ truth fit t f v = truth_same f v (λ a h. agree a (or_left (reads_in fit f v a) (all_read fit fs v a) h)) in
        let tail : all_true fit s fs v ≡ all_true fit t fs v = all_true_frame fs v (λ a h. agree a (or_right (reads_in fit f v a) (all_read fit fs v a) h)) in
        cc

    some_true_frame : (fs : FormulaValues) (v : Valuation) → Agree (all_read fit fs v) s t → some_true fit s fs v ≡ some_true fit t fs v
    some_true_frame no_formulas v agree = refl
    some_true_frame (formula f fs) v agree =
        let head : truth fit s f v ≡ truth fit t f v = truth_same f v (λ a h. agree a (or_left (reads_in fit f v a) (all_read fit fs v a) h)) in
        let tail : some_true fit s fs v ≡ some_true fit t fs v = some_true_frame fs v (λ a h. agree a (or_right (reads_in fit f v a) (all_read fit fs v a) h)) in
        cc

  listed_frame : {X : Type 0} (r : Valuation → Atoms) (p q : Valuation → List X) → ((v : Valuation) → Agree (r v) s t → p v ≡ q v) → (xs : List TypedValue) (v : Valuation)
      → Agree (λ g. some_valuation fit xs (λ u. r u g) v) s t → over_valuations fit xs p v ≡ over_valuations fit xs q v
  listed_frame r p q same [] v agree = same v agree
  listed_frame r p q same (x ∷ xs) v agree =
      flat_agree _ _ (fit x.of) (λ o c. listed_frame r p q same xs ((x.item, o) ∷ v) (agree_at r p q same x xs v o c agree))

  mutual
    fired_same : (e : EffectValue) (v : Valuation) → Agree (effect_read fit e v) s t → fired fit s e v ≡ fired fit t e v
    fired_same (effects.conjunction es) v agree = all_fired_same es v agree
    fired_same (effects.universal xs e) v agree = listed_frame (effect_read fit e) (fired fit s e) (fired fit t e) (λ u. fired_same e u) xs v agree
    fired_same (conditional f e) v agree =
        let test : truth fit s f v ≡ truth fit t f v = truth_same f v (λ b h. agree b (or_left (reads_in fit f v b) (effect_read fit e v b) h)) in
        let body : fired fit s e v ≡ fired fit t e v = fired_same e v (λ b h. agree b (or_right (reads_in fit f v b) (effect_read fit e v b) h)) in
        ap (λ b. cond b (fired fit s e v) []) test ∙ ap (λ xs. cond (truth fit t f v) xs []) body
    fired_same (addition a) v agree = refl
    fired_same (deletion a) v agree = refl
    fired_same (increase a) v agree = refl

    all_fired_same : (es : EffectValues) (v : Valuation) → Agree (effects_read fit es v) s t → all_fired fit s es v ≡ all_fired fit t es v
    all_fired_same no_effects v agree = refl
    all_fired_same (effect e es) v agree =
        let head : fired fit s e v ≡ fired fit t e v = fired_same e v (λ b h. agree b (or_left (effect_read fit e v b) (effects_read fit es v b) h)) in
        let tail : all_fired fit s es v ≡ all_fired fit t es v = all_fired_same es v (λ b h. agree b (or_right (effect_read fit e v b) (effects_read fit es v b) h)) in
        ap (λ xs. xs ++ all_fired fit s es v) head ∙ ap (λ ys. fired fit t e v ++ ys) tail

  -- the same by the atoms that are listed
  pub truth_frame : (f : FormulaValue) (v : Valuation) → Agree (formula_reads fit f v) s t → truth fit s f v ≡ truth fit t f v
  truth_frame f v agree = truth_same f v (λ g h. agree g (sym (reads_are fit (same_ground g) f v) ∙ h))

  pub fired_frame : (e : EffectValue) (v : Valuation) → Agree (effect_reads fit e v) s t → fired fit s e v ≡ fired fit t e v
  fired_frame e v agree = fired_same e v (λ g h. agree g (sym (spoken_are fit (same_ground g) no_atoms no_atoms e v) ∙ h))

module _ (w : World) (s t : Atoms) where
  mutual
    cost_same : (e : EffectValue) (v : Valuation) → Agree (effect_read w.fit e v) s t → effect_cost w s e v ≡ effect_cost w t e v
    cost_same (effects.conjunction es) v agree = costs_frame es v agree
    cost_same (effects.universal xs e) v agree = sum_frame w.fit s t (effect_read w.fit e) (effect_cost w s e) (effect_cost w t e) (λ u. cost_same e u) xs v agree
    cost_same (conditional f e) v agree =
        let test : truth w.fit s f v ≡ truth w.fit t f v = truth_same w.fit s t f v (λ b h. agree b (or_left (reads_in w.fit f v b) (effect_read w.fit e v b) h)) in
        let body : effect_cost w s e v ≡ effect_cost w t e v = cost_same e v (λ b h. agree b (or_right (reads_in w.fit f v b) (effect_read w.fit e v b) h)) in
        cc
    cost_same (addition a) v agree = refl
    cost_same (deletion a) v agree = refl
    cost_same (increase a) v agree = refl

    costs_frame : (es : EffectValues) (v : Valuation) → Agree (effects_read w.fit es v) s t → effects_cost w s es v ≡ effects_cost w t es v
    costs_frame no_effects v agree = refl
    costs_frame (effect e es) v agree =
        let head : effect_cost w s e v ≡ effect_cost w t e v = cost_same e v (λ b h. agree b (or_left (effect_read w.fit e v b) (effects_read w.fit es v b) h)) in
        let tail : effects_cost w s es v ≡ effects_cost w t es v = costs_frame es v (λ b h. agree b (or_right (effect_read w.fit e v b) (effects_read w.fit es v b) h)) in
        cc

  pub cost_frame : (e : EffectValue) (v : Valuation) → Agree (effect_reads w.fit e v) s t → effect_cost w s e v ≡ effect_cost w t e v
  cost_frame e v agree = cost_same e v (λ g h. agree g (sym (spoken_are w.fit (same_ground g) no_atoms no_atoms e v) ∙ h))

pub applied_frame : (w : World) (a : ActionValue) (v : Valuation) → IsFramed (applied w a v)
applied_frame w a v = record {
  ready = λ s t agree. truth_frame w.fit s t a.precondition v (λ g h. agree g (or_left _ (effect_reads w.fit a.effect v g) h));
  adds = λ s t agree g. ap (list_any (tested no_atoms (same_ground g) no_atoms)) (fired_frame w.fit s t a.effect v (λ b h. agree b (or_right (formula_reads w.fit a.precondition v b) _ h)));
  dels = λ s t agree g. ap (list_any (tested no_atoms no_atoms (same_ground g))) (fired_frame w.fit s t a.effect v (λ b h. agree b (or_right (formula_reads w.fit a.precondition v b) _ h)));
  cost = λ s t agree. cost_frame w s t a.effect v (λ b h. agree b (or_right (formula_reads w.fit a.precondition v b) _ h));
}

pub steps_framed : (task : TaskValue) (a : ActionValue) (os : List Name) → IsFramed (step_of task a os)
steps_framed task a os = applied_frame (world_of task) a (giving a.parameters os [])

-- ---- what fires is spoken of

-- what is listed of each of a list holds what is listed otherwise, where each does
more_listed : {X Y : Type 0} (p q : X → List Y) (xs : List X) (y : Y) → ((x : X) → Contains (p x) y → Contains (q x) y) → Contains (flat_map p xs) y → Contains (flat_map q xs) y
more_listed p q [] y more c = c
more_listed p q (x ∷ xs) y more c =
    elim (Contains-append_cases (p x) (flat_map p xs) y c) as (λ _. Contains (flat_map q (x ∷ xs)) y) [
      | inl here ↦ Contains-append_left (q x) (flat_map q xs) y (more x here)
      | inr later ↦ Contains-append_right (q x) (flat_map q xs) y (more_listed p q xs y more later)
    ]

module _ (fit : List Name → List Name) (s : Atoms) where
  under_more : (p q : Valuation → List Spoken) (y : Spoken) → ((v : Valuation) → Contains (p v) y → Contains (q v) y) → (xs : List TypedValue) (v : Valuation) → Contains (over_valuations fit xs p v) y → Contains (over_valuations fit xs q v) y
  under_more p q y more [] v c = more v c
  under_more p q y more (x ∷ xs) v c =
      more_listed (λ o. over_valuations fit xs p ((x.item, o) ∷ v)) (λ o. over_valuations fit xs q ((x.item, o) ∷ v)) (fit x.of) y (λ o. under_more p q y more xs ((x.item, o) ∷ v)) c

  where_true : (b : Bool) (xs : List Spoken) (y : Spoken) → Contains (cond b xs []) y → Contains xs y
  where_true true xs y c = c
  where_true false xs y c = absurd (omega (arith, c.1))

  mutual
    pub fired_spoken : (e : EffectValue) (v : Valuation) (y : Spoken) → Contains (fired fit s e v) y → Contains (effect_atoms fit e v) y
    fired_spoken (effects.conjunction es) v y c = all_fired_spoken es v y c
    fired_spoken (effects.universal xs e) v y c = under_more (fired fit s e) (effect_atoms fit e) y (λ u. fired_spoken e u y) xs v c
    fired_spoken (conditional f e) v y c =
        Contains-append_right (map is_read (formula_atoms fit f v)) (effect_atoms fit e v) y (fired_spoken e v y (where_true (truth fit s f v) (fired fit s e v) y c))
    fired_spoken (addition a) v y c = c
    fired_spoken (deletion a) v y c = c
    fired_spoken (increase a) v y c = c

    all_fired_spoken : (es : EffectValues) (v : Valuation) (y : Spoken) → Contains (all_fired fit s es v) y → Contains (effects_atoms fit es v) y
    all_fired_spoken no_effects v y c = c
    all_fired_spoken (effect e es) v y c =
        elim (Contains-append_cases (fired fit s e v) (all_fired fit s es v) y c) as (λ _. Contains (effect_atoms fit e v ++ effects_atoms fit es v) y) [
          | inl here ↦ Contains-append_left (effect_atoms fit e v) (effects_atoms fit es v) y (fired_spoken e v y here)
          | inr later ↦ Contains-append_right (effect_atoms fit e v) (effects_atoms fit es v) y (all_fired_spoken es v y later)
        ]
