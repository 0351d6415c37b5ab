-- Formulas and effects as ghost values, by which contracts tell them apart: each is read back from what is written of it. Own.
use Rattle.std.specs.Prelude.{◌≡◌, ℕ, zero, suc, List, [], ◌∷◌}
use mathlib.Core.Path.{refl, ap, ◌∙◌}
use base.Stored.{Gv, gnil, gnum, gcons, num}
use denote.Struct.Codes.{itself}
use Rattle.std.specs.Coded.{Coded, code_by}
use Rattle.pddl_formula.specs.Terms.{TermValue, AtomValue, name, variable}
use Rattle.pddl_formula.specs.TypedLists.{TypedValue}
use Rattle.pddl_formula.specs.Formulas.{FormulaValue, FormulaValues, atom, equal, negation, implication, conjunction, disjunction, existential, universal, no_formulas, formula}
use Rattle.pddl_effect.specs.Effects as effects
use Rattle.pddl_effect.specs.Effects.{AmountValue, number, function, EffectValue, EffectValues, conditional, addition, deletion, increase, no_effects, effect}

-- values that are written as ghost values and read back
record Kept (A : Type 0) : Type 0 where
  to : A → Gv
  from : Gv → A
  back : (x : A) → from (to x) ≡ x

abbrev first : Gv → Gv
first (gcons g h) = g
first g = g

abbrev second : Gv → Gv
second (gcons g h) = h
second g = g

abbrev kept_number : Kept ℕ
kept_number = record { to = gnum; from = num; back = λ n. refl }

module _ {A : Type 0} (a : Kept A) where
  abbrev write_list : List A → Gv
  write_list [] = gnil
  write_list (x ∷ xs) = gcons (a.to x) (write_list xs)

  abbrev read_list : Gv → List A
  read_list (gcons g h) = a.from g ∷ read_list h
  read_list g = []

  list_back : (xs : List A) → read_list (write_list xs) ≡ xs
  list_back [] = refl
  list_back (x ∷ xs) = λ i. a.back x i ∷ list_back xs i

  abbrev kept_list : Kept (List A)
  kept_list = record { to = write_list; from = read_list; back = list_back }

module _ {A B C : Type 0} (a : Kept A) (b : Kept B) (to : C → A × B) (from : A × B → C) (back : (x : C) → from (to x) ≡ x) where
  abbrev kept_pair : Kept C
  kept_pair = record {
    to = λ x. gcons (a.to (to x).0) (b.to (to x).1);
    from = λ g. from (a.from (first g), b.from (second g));
    back = λ x. (λ i. from (a.back (to x).0 i, b.back (to x).1 i)) ∙ back x;
  }

abbrev kept_name : Kept (List ℕ)
kept_name = kept_list kept_number

abbrev kept_typed : Kept TypedValue
kept_typed = kept_pair kept_name (kept_list kept_name) (λ x. (x.item, x.of)) (λ p. record { item = p.0; of = p.1 }) (λ x. refl)

abbrev kept_variables : Kept (List TypedValue)
kept_variables = kept_list kept_typed

abbrev write_term : TermValue → Gv
write_term (name n) = gcons (gnum zero) (kept_name.to n)
write_term (variable n) = gcons gnil (kept_name.to n)

abbrev read_term : Gv → TermValue
read_term (gcons gnil g) = variable (kept_name.from g)
read_term g = name (kept_name.from (second g))

term_back : (x : TermValue) → read_term (write_term x) ≡ x
term_back (name n) = ap name (kept_name.back n)
term_back (variable n) = ap variable (kept_name.back n)

abbrev kept_term : Kept TermValue
kept_term = record { to = write_term; from = read_term; back = term_back }

abbrev kept_atom : Kept AtomValue
kept_atom = kept_pair kept_name (kept_list kept_term) (λ a. (a.predicate, a.terms)) (λ p. record { predicate = p.0; terms = p.1 }) (λ a. refl)

-- ---- formulas

abbrev mutual
  write_formula : FormulaValue → Gv
  write_formula (atom a) = gcons (gnum zero) (kept_atom.to a)
  write_formula (equal x y) = gcons (gnum (suc zero)) (gcons (kept_term.to x) (kept_term.to y))
  write_formula (negation f) = gcons (gnum (suc (suc zero))) (write_formula f)
  write_formula (implication f g) = gcons (gnum (suc (suc (suc zero)))) (gcons (write_formula f) (write_formula g))
  write_formula (conjunction fs) = gcons (gnum (suc (suc (suc (suc zero))))) (write_formulas fs)
  write_formula (disjunction fs) = gcons (gnum (suc (suc (suc (suc (suc zero)))))) (write_formulas fs)
  write_formula (existential xs f) = gcons (gnum (suc (suc (suc (suc (suc (suc zero))))))) (gcons (kept_variables.to xs) (write_formula f))
  write_formula (universal xs f) = gcons gnil (gcons (kept_variables.to xs) (write_formula f))

  write_formulas : FormulaValues → Gv
  write_formulas no_formulas = gnil
  write_formulas (formula f fs) = gcons (write_formula f) (write_formulas fs)

abbrev mutual
  read_formula : Gv → FormulaValue
  read_formula (gcons (gnum zero) g) = atom (kept_atom.from g)
  read_formula (gcons (gnum (suc zero)) g) = equal (kept_term.from (first g)) (kept_term.from (second g))
  read_formula (gcons (gnum (suc (suc zero))) g) = negation (read_formula g)
  read_formula (gcons (gnum (suc (suc (suc zero)))) (gcons g h)) = implication (read_formula g) (read_formula h)
  read_formula (gcons (gnum (suc (suc (suc (suc zero))))) g) = conjunction (read_formulas g)
  read_formula (gcons (gnum (suc (suc (suc (suc (suc zero)))))) g) = disjunction (read_formulas g)
  read_formula (gcons (gnum (suc (suc (suc (suc (suc (suc n))))))) (gcons g h)) = existential (kept_variables.from g) (read_formula h)
  read_formula (gcons gnil (gcons g h)) = universal (kept_variables.from g) (read_formula h)
  read_formula g = conjunction no_formulas

  read_formulas : Gv → FormulaValues
  read_formulas (gcons g h) = formula (read_formula g) (read_formulas h)
  read_formulas g = no_formulas

mutual
  formula_back : (f : FormulaValue) → read_formula (write_formula f) ≡ f
  formula_back (atom a) = ap atom (kept_atom.back a)
  formula_back (equal x y) = λ i. equal (kept_term.back x i) (kept_term.back y i)
  formula_back (negation f) = ap negation (formula_back f)
  formula_back (implication f g) = λ i. implication (formula_back f i) (formula_back g i)
  formula_back (conjunction fs) = ap conjunction (formulas_back fs)
  formula_back (disjunction fs) = ap disjunction (formulas_back fs)
  formula_back (existential xs f) = λ i. existential (kept_variables.back xs i) (formula_back f i)
  formula_back (universal xs f) = λ i. universal (kept_variables.back xs i) (formula_back f i)

  formulas_back : (fs : FormulaValues) → read_formulas (write_formulas fs) ≡ fs
  formulas_back no_formulas = refl
  formulas_back (formula f fs) = λ i. formula (formula_back f i) (formulas_back fs i)

pub formula_code : Coded FormulaValue
formula_code = code_by Gv itself write_formula read_formula formula_back

-- ---- effects

abbrev write_amount : AmountValue → Gv
write_amount (number n) = gnum n
write_amount (function f) = gcons (kept_name.to f.function) (write_list kept_term f.terms)

abbrev read_amount : Gv → AmountValue
read_amount (gnum n) = number n
read_amount g = function (record { function = kept_name.from (first g); terms = read_list kept_term (second g) })

amount_back : (a : AmountValue) → read_amount (write_amount a) ≡ a
amount_back (number n) = refl
amount_back (function f) = λ i. function (record { function = kept_name.back f.function i; terms = list_back kept_term f.terms i })

abbrev mutual
  write_effect : EffectValue → Gv
  write_effect (effects.conjunction es) = gcons (gnum zero) (write_effects es)
  write_effect (effects.universal xs e) = gcons (gnum (suc zero)) (gcons (kept_variables.to xs) (write_effect e))
  write_effect (conditional f e) = gcons (gnum (suc (suc zero))) (gcons (write_formula f) (write_effect e))
  write_effect (addition a) = gcons (gnum (suc (suc (suc zero)))) (kept_atom.to a)
  write_effect (deletion a) = gcons (gnum (suc (suc (suc (suc zero))))) (kept_atom.to a)
  write_effect (increase a) = gcons gnil (write_amount a)

  write_effects : EffectValues → Gv
  write_effects no_effects = gnil
  write_effects (effect e es) = gcons (write_effect e) (write_effects es)

abbrev mutual
  read_effect : Gv → EffectValue
  read_effect (gcons (gnum zero) g) = effects.conjunction (read_effects g)
  read_effect (gcons (gnum (suc zero)) (gcons g h)) = effects.universal (kept_variables.from g) (read_effect h)
  read_effect (gcons (gnum (suc (suc zero))) (gcons g h)) = conditional (read_formula g) (read_effect h)
  read_effect (gcons (gnum (suc (suc (suc zero)))) g) = addition (kept_atom.from g)
  read_effect (gcons (gnum (suc (suc (suc (suc n))))) g) = deletion (kept_atom.from g)
  read_effect (gcons gnil g) = increase (read_amount g)
  read_effect g = effects.conjunction no_effects

  read_effects : Gv → EffectValues
  read_effects (gcons g h) = effect (read_effect g) (read_effects h)
  read_effects g = no_effects

mutual
  effect_back : (e : EffectValue) → read_effect (write_effect e) ≡ e
  effect_back (effects.conjunction es) = ap effects.conjunction (effects_back es)
  effect_back (effects.universal xs e) = λ i. effects.universal (kept_variables.back xs i) (effect_back e i)
  effect_back (conditional f e) = λ i. conditional (formula_back f i) (effect_back e i)
  effect_back (addition a) = ap addition (kept_atom.back a)
  effect_back (deletion a) = ap deletion (kept_atom.back a)
  effect_back (increase a) = ap increase (amount_back a)

  effects_back : (es : EffectValues) → read_effects (write_effects es) ≡ es
  effects_back no_effects = refl
  effects_back (effect e es) = λ i. effect (effect_back e i) (effects_back es i)

pub effect_code : Coded EffectValue
effect_code = code_by Gv itself write_effect read_effect effect_back
