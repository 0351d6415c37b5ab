-- The canonical tree of a value spells it.
use Rattle.std.proofs.Common.{◌≡◌, ◌≢◌, ℕ, Bool, true, false, ◌&&◌, List, [], ◌∷◌, map, refl, ap₂, codes, arith, inr}
use Rattle.std.specs.Prelude.{not, nat_lt, length}
use Rattle.std.proofs.lemmas.Bool.{leb-true}
use Rattle.std.proofs.lemmas.Bool.Decides.{nat_tests}
use Rattle.std.specs.List.{list_all}
use Rattle.std.specs.Str.{bytes_eq}
use Rattle.std.specs.Char.{to_ascii_lowercase}
use Rattle.pddl_token.specs.Number.{largest}
use Rattle.pddl_token.specs.Trees.{Tree}
use Rattle.pddl_token.proofs.NumberTexts.{reads_as_it}
use Rattle.pddl_token.specs.Names.{folded, is_first_byte, is_later_byte, is_name}
use Rattle.pddl_token.specs.TreeWords.{list, IsWord, SpellsName, SpellsVariable, Each}
use Rattle.pddl_items.proofs.Readers.{equal_bytes}
use Rattle.pddl_formula.specs.Reserved.{reserved, is_none_of, is_predicate, is_type_name, is_type}
use Rattle.pddl_formula.specs.Terms.{TermValue, name, variable, AtomValue, IsTerm, IsPredicate, IsAtom}
use Rattle.pddl_formula.specs.TypedLists.{WithType, TypedValue, IsTypeName, IsType, primitive, either, IsTypedList, untyped, typed, object, AreTypedNames, AreTypedVariables, IsVariableList}
use Rattle.pddl_formula.specs.Formulas.{FormulaValue, atom, equal, negation, implication, conjunction, disjunction, existential, universal, FormulaValues, no_formulas, formula, IsFormula, AreFormulas}
use Rattle.pddl_formula_reader.proofs.TermLaws.{none_of_sound}
use Rattle.pddl_effect.specs.StaticNames.{is_static_function}
use Rattle.pddl_effect.specs.Effects as effects
use Rattle.pddl_effect.specs.Effects.{FunctionTermValue, AmountValue, number, function, EffectValue, EffectValues, no_effects, effect, conditional, addition, deletion, increase, IsFunctionTerm, IsAmount, IsEffect, AreEffects}
use Rattle.pddl_file_layout.specs.FormulaValues.{is_term, is_atom, is_typed, is_formula, are_formulas, is_function_term, is_amount, is_effect, are_effects}
use Rattle.pddl_file_layout.specs.FormulaTrees.{name_tree, variable_tree, dash, equal_sign, term_tree, atom_tree, type_tree, typed_trees, variables_tree, formula_tree, formula_trees, function_term_tree, amount_tree, effect_tree, effect_trees}

-- ---- names are in lower case

first_folds : (b : ℕ) → is_first_byte b ≡ true → to_ascii_lowercase b ≡ b
first_folds b h = grind (arith, nat_tests)

later_folds : (b : ℕ) → is_later_byte b ≡ true → to_ascii_lowercase b ≡ b
later_folds b h = grind (arith, nat_tests)

pub and_parts : (a b : Bool) → (a && b) ≡ true → (a ≡ true) × (b ≡ true)
and_parts true b h = (refl, h)
and_parts false b h = absurd (cc)

later_bytes_fold : (bytes : List ℕ) → list_all is_later_byte bytes ≡ true → folded bytes ≡ bytes
later_bytes_fold [] h = refl
later_bytes_fold (b ∷ bytes) h =
    let p = and_parts (is_later_byte b) (list_all is_later_byte bytes) h in
    ap₂ (λ (x : ℕ) (xs : List ℕ). x ∷ xs) (later_folds b p.0) (later_bytes_fold bytes p.1)

pub name_folds : (n : List ℕ) → is_name n ≡ true → folded n ≡ n
name_folds [] h = absurd (cc)
name_folds (b ∷ bytes) h =
    let p = and_parts (is_first_byte b) (list_all is_later_byte bytes) h in
    ap₂ (λ (x : ℕ) (xs : List ℕ). x ∷ xs) (first_folds b p.0) (later_bytes_fold bytes p.1)

pub spells_name : (n : List ℕ) → is_name n ≡ true → SpellsName n (name_tree n)
spells_name n h = (h, (refl, name_folds n h))

spells_variable : (n : List ℕ) → is_name n ≡ true → SpellsVariable n (variable_tree n)
spells_variable n h = (h, refl, (n, refl, name_folds n h))

pub each_of : {A : Type 0} (test : A → Bool) (Spells : A → Tree → Type 0) (tree : A → Tree) → ((x : A) → test x ≡ true → Spells x (tree x))
    → (xs : List A) → list_all test xs ≡ true → Each Spells xs (map tree xs)
each_of test Spells tree spells [] h = tt
each_of test Spells tree spells (x ∷ xs) h =
    let p = and_parts (test x) (list_all test xs) h in
    (spells x p.0, each_of test Spells tree spells xs p.1)

-- ---- terms, atoms, types

spells_term : (x : TermValue) → is_term x ≡ true → IsTerm x (term_tree x)
spells_term (name n) h = spells_name n h
spells_term (variable n) h = spells_variable n h

pub spells_predicate : (n : List ℕ) → is_predicate n ≡ true → IsPredicate n (name_tree n)
spells_predicate n h = let p = and_parts (is_name n) (is_none_of reserved n) h in (spells_name n p.0, none_of_sound reserved n p.1)

spells_atom : (a : AtomValue) → is_atom a ≡ true → IsAtom a (atom_tree a)
spells_atom a h =
    let p = and_parts (is_predicate a.predicate) (list_all is_term a.terms) h in
    (name_tree a.predicate, map term_tree a.terms, refl, spells_predicate a.predicate p.0, each_of is_term IsTerm term_tree spells_term a.terms p.1)

not_false : (b : Bool) → not b ≡ true → b ≡ false
not_false true h = absurd (cc)
not_false false h = refl

other_than : (n word : List ℕ) → not (bytes_eq n word) ≡ true → n ≢ word
other_than n word h is = let no = not_false (bytes_eq n word) h in let yes = equal_bytes n word is in cc

pub spells_type_name : (n : List ℕ) → is_type_name n ≡ true → IsTypeName n (name_tree n)
spells_type_name n h = let p = and_parts (is_name n) (not (bytes_eq n (codes "either"))) h in (spells_name n p.0, other_than n (codes "either") p.1)

either_word : IsWord (codes "either") (name_tree (codes "either"))
either_word = (refl, refl)

pub spells_type : (ns : List (List ℕ)) → is_type ns ≡ true → IsType ns (type_tree ns)
spells_type [] h = absurd (cc)
spells_type (n ∷ []) h =
    let p = and_parts (nat_lt 0 (length (n ∷ []))) (list_all is_type_name (n ∷ [])) h in
    let q = and_parts (is_type_name n) true p.1 in
    primitive (spells_type_name n q.0)
spells_type (n ∷ m ∷ ns) h =
    let p = and_parts (nat_lt 0 (length (n ∷ m ∷ ns))) (list_all is_type_name (n ∷ m ∷ ns)) h in
    either (name_tree (codes "either")) (map name_tree (n ∷ m ∷ ns)) refl either_word
    (each_of is_type_name IsTypeName name_tree spells_type_name (n ∷ m ∷ ns) p.1)

-- ---- typed lists

-- an item with its type, and a typed list behind it
pub one_typed : {X T : Type 0} {IsItem : X → Tree → Type 0} {IsTypeOf : T → Tree → Type 0} {default : T} (x : WithType X T) (xs : List (WithType X T)) (item type : Tree) (after : List Tree)
    → IsItem x.item item → IsTypeOf x.of type → IsTypedList IsItem IsTypeOf default xs after → IsTypedList IsItem IsTypeOf default (x ∷ xs) (item ∷ dash ∷ type ∷ after)
one_typed x xs item type after is_item is_type more =
    typed (x ∷ []) xs (item ∷ dash ∷ type ∷ []) after refl refl
    (record { value = x.of; items = item ∷ []; dash = dash; type = type; trees_are = refl; some = λ none. absurd (cc (none)); each = ((is_item, refl), tt); is_dash = refl; is_type = is_type }) more

spells_typed : (IsItem : List ℕ → Tree → Type 0) (tree : List ℕ → Tree) → ((n : List ℕ) → is_name n ≡ true → IsItem n (tree n))
    → (xs : List TypedValue) → list_all is_typed xs ≡ true → IsTypedList IsItem IsType object xs (typed_trees tree xs)
spells_typed IsItem tree spells [] h = untyped tt
spells_typed IsItem tree spells (x ∷ xs) h =
    let p = and_parts (is_typed x) (list_all is_typed xs) h in
    let q = and_parts (is_name x.item) (is_type x.of) p.0 in
    one_typed x xs (tree x.item) (type_tree x.of) (typed_trees tree xs) (spells x.item q.0) (spells_type x.of q.1) (spells_typed IsItem tree spells xs p.1)

pub spells_variables : (xs : List TypedValue) → list_all is_typed xs ≡ true → AreTypedVariables xs (typed_trees variable_tree xs)
spells_variables = spells_typed SpellsVariable variable_tree spells_variable

pub spells_names : (xs : List TypedValue) → list_all is_typed xs ≡ true → AreTypedNames xs (typed_trees name_tree xs)
spells_names = spells_typed SpellsName name_tree spells_name

pub spells_variable_list : (xs : List TypedValue) → list_all is_typed xs ≡ true → IsVariableList xs (variables_tree xs)
spells_variable_list xs h = (typed_trees variable_tree xs, refl, spells_variables xs h)

-- ---- formulas

mutual
  pub spells_formula : (f : FormulaValue) → is_formula f ≡ true → IsFormula f (formula_tree f)
  spells_formula (atom a) h = spells_atom a h
  spells_formula (equal x y) h =
      let p = and_parts (is_term x) (is_term y) h in
      (equal_sign, term_tree x, term_tree y, refl, refl, spells_term x p.0, spells_term y p.1)
  spells_formula (negation f) h = (name_tree (codes "not"), formula_tree f, refl, (refl, refl), spells_formula f h)
  spells_formula (implication f g) h =
      let p = and_parts (is_formula f) (is_formula g) h in
      (name_tree (codes "imply"), formula_tree f, formula_tree g, refl, (refl, refl), spells_formula f p.0, spells_formula g p.1)
  spells_formula (conjunction fs) h = (name_tree (codes "and"), formula_trees fs, refl, (refl, refl), spells_formulas fs h)
  spells_formula (disjunction fs) h = (name_tree (codes "or"), formula_trees fs, refl, (refl, refl), spells_formulas fs h)
  spells_formula (existential xs f) h =
      let p = and_parts (list_all is_typed xs) (is_formula f) h in
      (name_tree (codes "exists"), variables_tree xs, formula_tree f, refl, (refl, refl), spells_variable_list xs p.0, spells_formula f p.1)
  spells_formula (universal xs f) h =
      let p = and_parts (list_all is_typed xs) (is_formula f) h in
      (name_tree (codes "forall"), variables_tree xs, formula_tree f, refl, (refl, refl), spells_variable_list xs p.0, spells_formula f p.1)

  spells_formulas : (fs : FormulaValues) → are_formulas fs ≡ true → AreFormulas fs (formula_trees fs)
  spells_formulas no_formulas h = tt
  spells_formulas (formula f fs) h = let p = and_parts (is_formula f) (are_formulas fs) h in (spells_formula f p.0, spells_formulas fs p.1)

-- ---- effects

spells_function_term : (f : FunctionTermValue) → is_function_term f ≡ true → IsFunctionTerm f (function_term_tree f)
spells_function_term f h =
    let p = and_parts (is_static_function f.function) (list_all is_term f.terms) h in
    let q = and_parts (is_name f.function) (not (bytes_eq f.function (codes "total-cost"))) p.0 in (
      other_than f.function (codes "total-cost") q.1,
      inr (name_tree f.function, map term_tree f.terms, refl, spells_name f.function q.0, each_of is_term IsTerm term_tree spells_term f.terms p.1),
    )

spells_amount : (a : AmountValue) → is_amount a ≡ true → IsAmount a (amount_tree a)
spells_amount (number n) h = (refl, (reads_as_it n (leb-true n largest h)).1)
spells_amount (function f) h = spells_function_term f h

mutual
  pub spells_effect : (e : EffectValue) → is_effect e ≡ true → IsEffect e (effect_tree e)
  spells_effect (effects.conjunction es) h = (name_tree (codes "and"), effect_trees es, refl, (refl, refl), spells_effects es h)
  spells_effect (effects.universal xs e) h =
      let p = and_parts (list_all is_typed xs) (is_effect e) h in
      (name_tree (codes "forall"), variables_tree xs, effect_tree e, refl, (refl, refl), spells_variable_list xs p.0, spells_effect e p.1)
  spells_effect (conditional f e) h =
      let p = and_parts (is_formula f) (is_effect e) h in
      (name_tree (codes "when"), formula_tree f, effect_tree e, refl, (refl, refl), spells_formula f p.0, spells_effect e p.1)
  spells_effect (addition a) h = spells_atom a h
  spells_effect (deletion a) h = (name_tree (codes "not"), atom_tree a, refl, (refl, refl), spells_atom a h)
  spells_effect (increase a) h = (
    name_tree (codes "increase"),
    list (name_tree (codes "total-cost") ∷ []),
    amount_tree a,
    refl,
    (refl, refl),
    inr (name_tree (codes "total-cost"), refl, (refl, refl)),
    spells_amount a h,
  )

  spells_effects : (es : EffectValues) → are_effects es ≡ true → AreEffects es (effect_trees es)
  spells_effects no_effects h = tt
  spells_effects (effect e es) h = let p = and_parts (is_effect e) (are_effects es) h in (spells_effect e p.0, spells_effects es p.1)
