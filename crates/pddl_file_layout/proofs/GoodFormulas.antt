-- What some tree spells, the program can hold.
use Rattle.std.proofs.Common.{◌≡◌, ◌≢◌, ℕ, Bool, true, List, [], ◌∷◌, ◌++◌, refl, sym, ap, ◌∙◌, subst, codes, arith, inl, inr}
use Rattle.std.specs.Prelude.{not, nat_le, nat_lt, length}
use Rattle.std.specs.List.{list_all}
use Rattle.std.proofs.lemmas.Bool.Decides.{nat_tests}
use Rattle.std.specs.Str.{bytes_eq}
use Rattle.std.proofs.lemmas.Bool.{and_from}
use Rattle.pddl_token.specs.Number.{largest}
use Rattle.pddl_token.specs.Trees.{Tree, leaf, node}
use Rattle.pddl_token.proofs.Tests.{both_true}
use Rattle.pddl_token.proofs.Values.{value_in_range}
use Rattle.pddl_token.specs.Names.{is_name}
use Rattle.pddl_token.specs.TreeWords.{SpellsName, SpellsVariable, SpellsNumber}
use Rattle.pddl_items.proofs.Readers.{other_bytes, each_good}
use Rattle.pddl_formula.specs.Reserved.{reserved, is_none_of, is_predicate, is_type_name, is_type}
use Rattle.pddl_formula.specs.Terms.{TermValue, name, variable, AtomValue, IsTerm, IsPredicate, IsAtom}
use Rattle.pddl_formula.specs.TypedLists.{WithType, TypedValue, IsTypeName, IsType, primitive, either, OfType, IsTypedList, untyped, typed, object, IsVariableList}
use Rattle.pddl_formula.specs.Formulas.{FormulaValue, atom, equal, negation, implication, conjunction, disjunction, existential, universal, FormulaValues, no_formulas, formula, IsFormula, AreFormulas, IsCondition}
use Rattle.pddl_formula_reader.proofs.TermLaws.{none_of_complete}
use Rattle.pddl_effect.specs.StaticNames.{is_static_function}
use Rattle.pddl_effect.specs.Effects as effects
use Rattle.pddl_effect.specs.Effects.{FunctionTermValue, AmountValue, number, function, EffectValue, EffectValues, no_effects, effect, conditional, addition, deletion, increase, IsFunctionTerm, IsAmount, IsEffect, AreEffects, IsWholeEffect}
use Rattle.pddl_file_layout.specs.FormulaValues.{is_term, is_atom, is_typed, is_formula, are_formulas, is_function_term, is_amount, is_effect, are_effects}

-- ---- tests

pub all_append : {A : Type 0} (test : A → Bool) (xs ys : List A) → list_all test xs ≡ true → list_all test ys ≡ true → list_all test (xs ++ ys) ≡ true
all_append test [] ys first second = second
all_append test (x ∷ xs) ys first second =
    let p = both_true (test x) (list_all test xs) first in and_from (test x) (list_all test (xs ++ ys)) p.0 (all_append test xs ys p.1 second)

-- ---- names, terms, atoms

pub name_good : (n : List ℕ) (t : Tree) → SpellsName n t → is_name n ≡ true
name_good n t (good, is) = good

variable_good : (n : List ℕ) (t : Tree) → SpellsVariable n t → is_name n ≡ true
variable_good n (leaf w) (good, kind, spelled) = good
variable_good n (node ts) none = absurd none

term_good : (x : TermValue) (t : Tree) → IsTerm x t → is_term x ≡ true
term_good (name n) t is = name_good n t is
term_good (variable n) t is = variable_good n t is

pub predicate_good : (n : List ℕ) (t : Tree) → IsPredicate n t → is_predicate n ≡ true
predicate_good n t (spelled, free) = and_from (is_name n) (is_none_of reserved n) (name_good n t spelled) (none_of_complete reserved n free)

atom_good : (a : AtomValue) (t : Tree) → IsAtom a t → is_atom a ≡ true
atom_good a t (head, ts, is, predicate, each) =
    and_from (is_predicate a.predicate) (list_all is_term a.terms) (predicate_good a.predicate head predicate) (each_good is_term IsTerm term_good a.terms ts each)

-- ---- types and typed lists

not_equal : (n word : List ℕ) → n ≢ word → not (bytes_eq n word) ≡ true
not_equal n word other = ap not (other_bytes n word other)

pub type_name_good : (n : List ℕ) (t : Tree) → IsTypeName n t → is_type_name n ≡ true
type_name_good n t (spelled, other) = and_from (is_name n) (not (bytes_eq n (codes "either"))) (name_good n t spelled) (not_equal n (codes "either") other)

has_one : (n : List ℕ) (ns : List (List ℕ)) → nat_lt 0 (length (n ∷ ns)) ≡ true
has_one n ns = grind (arith, nat_tests)

pub type_good : {ns : List (List ℕ)} {t : Tree} → IsType ns t → is_type ns ≡ true
type_good {t = t} (primitive {n = n} is) = and_from (is_type_name n) true (type_name_good n t is) refl
type_good (either {n = n} {ns = ns} head ts is word each) =
    and_from (nat_lt 0 (length (n ∷ ns))) (list_all is_type_name (n ∷ ns)) (has_one n ns) (each_good is_type_name IsTypeName type_name_good (n ∷ ns) ts each)

module _ {X T : Type 0} (IsItem : X → Tree → Type 0) (IsTypeOf : T → Tree → Type 0) (default : T) (test : WithType X T → Bool)
    (good : (x : WithType X T) (t : Tree) → IsItem x.item t → (type : T) → x.of ≡ type → ((u : Tree) × IsTypeOf type u) → test x ≡ true)
    (plain : (x : WithType X T) (t : Tree) → IsItem x.item t → x.of ≡ default → test x ≡ true) where
  pub list_good : {xs : List (WithType X T)} {ts : List Tree} → IsTypedList IsItem IsTypeOf default xs ts → list_all test xs ≡ true
  list_good {xs = xs} {ts = ts} (untyped each) = each_good test (OfType IsItem default) (λ x t spelled. plain x t spelled.0 spelled.1) xs ts each
  list_good (typed group ys ts after is trees_are g more) =
      let all = each_good test (OfType IsItem g.value) (λ x t spelled. good x t spelled.0 g.value spelled.1 (g.type, g.is_type)) group g.items g.each in
      subst (λ zs. list_all test zs ≡ true) (sym is) (all_append test group ys all (list_good more))

module _ (IsItem : List ℕ → Tree → Type 0) (named : (n : List ℕ) (t : Tree) → IsItem n t → is_name n ≡ true) where
  pub typed_good : (xs : List TypedValue) (ts : List Tree) → IsTypedList IsItem IsType object xs ts → list_all is_typed xs ≡ true
  typed_good xs ts listed =
      list_good IsItem IsType object is_typed
      (λ x t is type of found. and_from (is_name x.item) (is_type x.of) (named x.item t is) (ap is_type of ∙ type_good found.1))
      (λ x t is of. and_from (is_name x.item) (is_type x.of) (named x.item t is) (ap is_type of)) listed

pub typed_names_good : (xs : List TypedValue) (ts : List Tree) → IsTypedList SpellsName IsType object xs ts → list_all is_typed xs ≡ true
typed_names_good = typed_good SpellsName name_good

pub typed_variables_good : (xs : List TypedValue) (ts : List Tree) → IsTypedList SpellsVariable IsType object xs ts → list_all is_typed xs ≡ true
typed_variables_good = typed_good SpellsVariable variable_good

pub variables_good : (xs : List TypedValue) (t : Tree) → IsVariableList xs t → list_all is_typed xs ≡ true
variables_good xs t (ts, is, listed) = typed_variables_good xs ts listed

-- ---- formulas

mutual
  pub formula_good : (f : FormulaValue) (t : Tree) → IsFormula f t → is_formula f ≡ true
  formula_good (atom a) t is = atom_good a t is
  formula_good (equal x y) t (head, u, v, is, sign, left, right) = and_from (is_term x) (is_term y) (term_good x u left) (term_good y v right)
  formula_good (negation f) t (head, x, is, word, inner) = formula_good f x inner
  formula_good (implication f g) t (head, x, y, is, word, left, right) = and_from (is_formula f) (is_formula g) (formula_good f x left) (formula_good g y right)
  formula_good (conjunction fs) t (head, ts, is, word, all) = formulas_good fs ts all
  formula_good (disjunction fs) t (head, ts, is, word, all) = formulas_good fs ts all
  formula_good (existential xs f) t (head, vs, x, is, word, listed, body) = and_from (list_all is_typed xs) (is_formula f) (variables_good xs vs listed) (formula_good f x body)
  formula_good (universal xs f) t (head, vs, x, is, word, listed, body) = and_from (list_all is_typed xs) (is_formula f) (variables_good xs vs listed) (formula_good f x body)

  formulas_good : (fs : FormulaValues) (ts : List Tree) → AreFormulas fs ts → are_formulas fs ≡ true
  formulas_good no_formulas ts all = refl
  formulas_good (formula f fs) [] all = absurd all
  formulas_good (formula f fs) (t ∷ ts) (here, rest) = and_from (is_formula f) (are_formulas fs) (formula_good f t here) (formulas_good fs ts rest)

pub condition_good : (f : FormulaValue) (t : Tree) → IsCondition f t → is_formula f ≡ true
condition_good f t (inl is) = formula_good f t is
condition_good f t (inr (is, empty)) = ap is_formula empty

-- ---- effects

pub number_good : (n : ℕ) (t : Tree) → SpellsNumber n t → nat_le n largest ≡ true
number_good n (leaf w) (kind, value) = value_in_range w.text n value
number_good n (node ts) none = absurd none

function_term_good : (f : FunctionTermValue) (t : Tree) → IsFunctionTerm f t → is_function_term f ≡ true
function_term_good f t (other, inl (none, spelled)) =
    and_from (is_static_function f.function) (list_all is_term f.terms)
    (and_from (is_name f.function) (not (bytes_eq f.function (codes "total-cost"))) (name_good f.function t spelled) (not_equal f.function (codes "total-cost") other))
    (ap (list_all is_term) none)
function_term_good f t (other, inr (head, ts, is, spelled, each)) =
    and_from (is_static_function f.function) (list_all is_term f.terms)
    (and_from (is_name f.function) (not (bytes_eq f.function (codes "total-cost"))) (name_good f.function head spelled) (not_equal f.function (codes "total-cost") other))
    (each_good is_term IsTerm term_good f.terms ts each)

amount_good : (a : AmountValue) (t : Tree) → IsAmount a t → is_amount a ≡ true
amount_good (number n) t is = number_good n t is
amount_good (function f) t is = function_term_good f t is

mutual
  pub effect_good : (e : EffectValue) (t : Tree) → IsEffect e t → is_effect e ≡ true
  effect_good (effects.conjunction es) t (head, ts, is, word, all) = effects_good es ts all
  effect_good (effects.universal xs e) t (head, vs, x, is, word, listed, body) = and_from (list_all is_typed xs) (is_effect e) (variables_good xs vs listed) (effect_good e x body)
  effect_good (conditional f e) t (head, c, x, is, word, condition, body) = and_from (is_formula f) (is_effect e) (formula_good f c condition) (effect_good e x body)
  effect_good (addition a) t is = atom_good a t is
  effect_good (deletion a) t (head, x, is, word, inner) = atom_good a x inner
  effect_good (increase a) t (head, cost, x, is, word, total, amount) = amount_good a x amount

  effects_good : (es : EffectValues) (ts : List Tree) → AreEffects es ts → are_effects es ≡ true
  effects_good no_effects ts all = refl
  effects_good (effect e es) [] all = absurd all
  effects_good (effect e es) (t ∷ ts) (here, rest) = and_from (is_effect e) (are_effects es) (effect_good e t here) (effects_good es ts rest)

pub whole_effect_good : (e : EffectValue) (t : Tree) → IsWholeEffect e t → is_effect e ≡ true
whole_effect_good e t (inl is) = effect_good e t is
whole_effect_good e t (inr (is, empty)) = ap is_effect empty
