-- Canonical trees can be written: their words are spelled as their kinds say.
use Rattle.std.proofs.Common.{◌≡◌, ℕ, Bool, true, List, [], ◌∷◌, ◌++◌, map, refl, sym, subst, codes, arith}
use Rattle.std.specs.Prelude.{not, nat_le, nat_lt, length, Some, IsSome}
use Rattle.std.specs.List.{AllPass, flat_map, list_all}
use Rattle.std.specs.Char.{is_ascii_whitespace, is_ascii_alphabetic}
use Rattle.std.specs.Str.{bytes_eq}
use Rattle.std.proofs.lemmas.Bool.{leb-true}
use Rattle.std.proofs.lemmas.Bool.Decides.{nat_tests}
use Rattle.std.proofs.lemmas.List.Elements.{All-nil, All-cons}
use Rattle.pddl_token.specs.Bytes.{is_word_byte}
use Rattle.pddl_token.specs.Words.{IsName}
use Rattle.pddl_token.specs.Number.{largest, value_of}
use Rattle.pddl_token.specs.NumberText.{number_text}
use Rattle.pddl_token.specs.Trees.{Tree, trees_of}
use Rattle.pddl_text.specs.Pieces.{IsWellFormed, IsWritable, AreWritable}
use Rattle.pddl_token.proofs.NumberTexts.{reads_as_it}
use Rattle.pddl_token.specs.Names.{is_first_byte, is_later_byte, is_name}
use Rattle.pddl_formula.specs.Reserved.{reserved, is_none_of, is_predicate, is_type_name, is_type}
use Rattle.pddl_formula.specs.Terms.{TermValue, name, variable, AtomValue}
use Rattle.pddl_formula.specs.TypedLists.{TypedValue}
use Rattle.pddl_formula.specs.Formulas.{FormulaValue, atom, equal, negation, implication, conjunction, disjunction, existential, universal, FormulaValues, no_formulas, formula}
use Rattle.pddl_effect.specs.StaticNames.{is_static_function}
use Rattle.pddl_effect.specs.Effects as effects
use Rattle.pddl_effect.specs.Effects.{FunctionTermValue, AmountValue, number, function, EffectValue, EffectValues, no_effects, effect, conditional, addition, deletion, increase}
use Rattle.pddl_sections.specs.Sections.{AllOf}
use Rattle.pddl_file_layout.specs.FormulaValues.{is_term, is_atom, is_typed, is_formula, are_formulas, is_function_term, is_amount, is_effect, are_effects}
use Rattle.pddl_file_layout.specs.FormulaTrees.{name_tree, variable_tree, dash, equal_sign, number_tree, term_tree, atom_tree, type_tree, typed_trees, variables_tree, formula_tree, formula_trees, function_term_tree, amount_tree, effect_tree, effect_trees}
use Rattle.pddl_file_layout.specs.DomainLayout.{keyword_tree, flag_tree, section_trees}
use Rattle.pddl_file_layout.specs.Inner.DomainPieces.{name_word, keyword_word}
use Rattle.pddl_file_layout.proofs.FormulaTreeLaws.{and_parts}

-- ---- words

first_letter : (b : ℕ) → is_first_byte b ≡ true → is_ascii_alphabetic b ≡ true
first_letter b e = grind (arith, nat_tests, e)

later_word_byte : (b : ℕ) → is_later_byte b ≡ true → is_word_byte b ≡ true
later_word_byte b e = grind (arith, nat_tests, e)

all_word_bytes : (bytes : List ℕ) → list_all is_later_byte bytes ≡ true → AllPass is_word_byte bytes
all_word_bytes [] e = All-nil (λ x. is_word_byte x ≡ true)
all_word_bytes (b ∷ bytes) e =
    let parts = and_parts (is_later_byte b) (list_all is_later_byte bytes) e in
    All-cons (λ x. is_word_byte x ≡ true) b bytes (later_word_byte b parts.0) (all_word_bytes bytes parts.1)

pub name_spelled : (n : List ℕ) → is_name n ≡ true → IsName n
name_spelled [] e = absurd (cc (e))
name_spelled (b ∷ bytes) e = let parts = and_parts (is_first_byte b) (list_all is_later_byte bytes) e in (first_letter b parts.0, all_word_bytes bytes parts.1)

pub all_blank : (text : List ℕ) → list_all is_ascii_whitespace text ≡ true → AllPass is_ascii_whitespace text
all_blank [] e = All-nil (λ x. is_ascii_whitespace x ≡ true)
all_blank (b ∷ bytes) e =
    let parts = and_parts (is_ascii_whitespace b) (list_all is_ascii_whitespace bytes) e in
    All-cons (λ x. is_ascii_whitespace x ≡ true) b bytes parts.0 (all_blank bytes parts.1)

-- ---- lists

pub all_writable : (ts : List Tree) → AllOf IsWritable ts → AreWritable (trees_of ts)
all_writable [] all = tt
all_writable (t ∷ ts) (here, rest) = (here, all_writable ts rest)

pub all_append : (ts us : List Tree) → AllOf IsWritable ts → AllOf IsWritable us → AllOf IsWritable (ts ++ us)
all_append [] us first second = second
all_append (t ∷ ts) us (here, rest) second = (here, all_append ts us rest second)

pub all_of_each : {A : Type 0} (test : A → Bool) (tree : A → Tree) → ((x : A) → test x ≡ true → IsWritable (tree x)) → (xs : List A) → list_all test xs ≡ true → AllOf IsWritable (map tree xs)
all_of_each test tree writable [] h = tt
all_of_each test tree writable (x ∷ xs) h =
    let p = and_parts (test x) (list_all test xs) h in (writable x p.0, all_of_each test tree writable xs p.1)

pub all_of_lists : {A : Type 0} (test : A → Bool) (trees : A → List Tree) → ((x : A) → test x ≡ true → AllOf IsWritable (trees x)) → (xs : List A) → list_all test xs ≡ true → AllOf IsWritable (flat_map trees xs)
all_of_lists test trees writable [] h = tt
all_of_lists test trees writable (x ∷ xs) h =
    let p = and_parts (test x) (list_all test xs) h in all_append (trees x) (flat_map trees xs) (writable x p.0) (all_of_lists test trees writable xs p.1)

-- ---- leaves

pub name_writable : (n : List ℕ) → is_name n ≡ true → IsWritable (name_tree n)
name_writable n h = ((name_spelled n h, λ bad. absurd (cc (bad))), λ bad. absurd (cc (bad)), λ bad. absurd (cc (bad)))

pub variable_writable : (n : List ℕ) → is_name n ≡ true → IsWritable (variable_tree n)
variable_writable n h = (((n, name_spelled n h, refl), λ bad. absurd (cc (bad))), λ bad. absurd (cc (bad)), λ bad. absurd (cc (bad)))

pub flag_writable : (n : List ℕ) → is_name n ≡ true → IsWritable (flag_tree n)
flag_writable n h = (((n, name_spelled n h, refl), λ bad. absurd (cc (bad))), λ bad. absurd (cc (bad)), λ bad. absurd (cc (bad)))

pub dash_writable : IsWritable dash
dash_writable = ((refl, λ bad. absurd (cc (bad))), λ bad. absurd (cc (bad)), λ bad. absurd (cc (bad)))

pub equal_writable : IsWritable equal_sign
equal_writable = ((refl, λ bad. absurd (cc (bad))), λ bad. absurd (cc (bad)), λ bad. absurd (cc (bad)))

valued : (n : ℕ) → value_of (number_text n) ≡ Some n → IsSome (value_of (number_text n))
valued n e = subst (λ o. IsSome o) (sym e) refl

pub number_writable : (n : ℕ) → nat_le n largest ≡ true → IsWritable (number_tree n)
number_writable n h =
    let reads = reads_as_it n (leb-true n largest h) in
    ((reads.0, λ is. valued n reads.1), λ bad. absurd (cc (bad)), λ bad. absurd (cc (bad)))

-- ---- terms, types, typed lists

term_writable : (x : TermValue) → is_term x ≡ true → IsWritable (term_tree x)
term_writable (name n) h = name_writable n h
term_writable (variable n) h = variable_writable n h

pub predicate_writable : (n : List ℕ) → is_predicate n ≡ true → IsWritable (name_tree n)
predicate_writable n h = let p = and_parts (is_name n) (is_none_of reserved n) h in name_writable n p.0

atom_writable : (a : AtomValue) → is_atom a ≡ true → IsWritable (atom_tree a)
atom_writable a h =
    let p = and_parts (is_predicate a.predicate) (list_all is_term a.terms) h in
    all_writable (name_tree a.predicate ∷ map term_tree a.terms) (predicate_writable a.predicate p.0, all_of_each is_term term_tree term_writable a.terms p.1)

pub type_name_writable : (n : List ℕ) → is_type_name n ≡ true → IsWritable (name_tree n)
type_name_writable n h = let p = and_parts (is_name n) (not (bytes_eq n (codes "either"))) h in name_writable n p.0

pub type_writable : (ns : List (List ℕ)) → is_type ns ≡ true → IsWritable (type_tree ns)
type_writable [] h = absurd (cc)
type_writable (n ∷ []) h =
    let p = and_parts (nat_lt 0 (length (n ∷ []))) (list_all is_type_name (n ∷ [])) h in
    let q = and_parts (is_type_name n) true p.1 in type_name_writable n q.0
type_writable (n ∷ m ∷ ns) h =
    let p = and_parts (nat_lt 0 (length (n ∷ m ∷ ns))) (list_all is_type_name (n ∷ m ∷ ns)) h in
    all_writable (name_tree (codes "either") ∷ map name_tree (n ∷ m ∷ ns)) (name_writable (codes "either") refl, all_of_each is_type_name name_tree type_name_writable (n ∷ m ∷ ns) p.1)

pub typed_writable : (item_tree : List ℕ → Tree) → ((n : List ℕ) → is_name n ≡ true → IsWritable (item_tree n)) → (xs : List TypedValue) → list_all is_typed xs ≡ true → AllOf IsWritable (typed_trees item_tree xs)
typed_writable item_tree writable xs h =
    all_of_lists is_typed (λ (x : TypedValue). item_tree x.item ∷ dash ∷ type_tree x.of ∷ [])
    (λ x good. let q = and_parts (is_name x.item) (is_type x.of) good in (writable x.item q.0, (dash_writable, (type_writable x.of q.1, tt)))) xs h

pub variables_writable : (xs : List TypedValue) → list_all is_typed xs ≡ true → IsWritable (variables_tree xs)
variables_writable xs h = all_writable (typed_trees variable_tree xs) (typed_writable variable_tree variable_writable xs h)

-- ---- formulas

mutual
  pub formula_writable : (f : FormulaValue) → is_formula f ≡ true → IsWritable (formula_tree f)
  formula_writable (atom a) h = atom_writable a h
  formula_writable (equal x y) h = let p = and_parts (is_term x) (is_term y) h in (equal_writable, (term_writable x p.0, (term_writable y p.1, tt)))
  formula_writable (negation f) h = (name_writable (codes "not") refl, (formula_writable f h, tt))
  formula_writable (implication f g) h =
      let p = and_parts (is_formula f) (is_formula g) h in (name_writable (codes "imply") refl, (formula_writable f p.0, (formula_writable g p.1, tt)))
  formula_writable (conjunction fs) h = (name_writable (codes "and") refl, all_writable (formula_trees fs) (formulas_writable fs h))
  formula_writable (disjunction fs) h = (name_writable (codes "or") refl, all_writable (formula_trees fs) (formulas_writable fs h))
  formula_writable (existential xs f) h =
      let p = and_parts (list_all is_typed xs) (is_formula f) h in (name_writable (codes "exists") refl, (variables_writable xs p.0, (formula_writable f p.1, tt)))
  formula_writable (universal xs f) h =
      let p = and_parts (list_all is_typed xs) (is_formula f) h in (name_writable (codes "forall") refl, (variables_writable xs p.0, (formula_writable f p.1, tt)))

  formulas_writable : (fs : FormulaValues) → are_formulas fs ≡ true → AllOf IsWritable (formula_trees fs)
  formulas_writable no_formulas h = tt
  formulas_writable (formula f fs) h = let p = and_parts (is_formula f) (are_formulas fs) h in (formula_writable f p.0, formulas_writable fs p.1)

-- ---- effects

function_term_writable : (f : FunctionTermValue) → is_function_term f ≡ true → IsWritable (function_term_tree f)
function_term_writable f h =
    let p = and_parts (is_static_function f.function) (list_all is_term f.terms) h in
    let q = and_parts (is_name f.function) (not (bytes_eq f.function (codes "total-cost"))) p.0 in
    all_writable (name_tree f.function ∷ map term_tree f.terms) (name_writable f.function q.0, all_of_each is_term term_tree term_writable f.terms p.1)

amount_writable : (a : AmountValue) → is_amount a ≡ true → IsWritable (amount_tree a)
amount_writable (number n) h = number_writable n h
amount_writable (function f) h = function_term_writable f h

mutual
  pub effect_writable : (e : EffectValue) → is_effect e ≡ true → IsWritable (effect_tree e)
  effect_writable (effects.conjunction es) h = (name_writable (codes "and") refl, all_writable (effect_trees es) (effects_writable es h))
  effect_writable (effects.universal xs e) h =
      let p = and_parts (list_all is_typed xs) (is_effect e) h in (name_writable (codes "forall") refl, (variables_writable xs p.0, (effect_writable e p.1, tt)))
  effect_writable (conditional f e) h =
      let p = and_parts (is_formula f) (is_effect e) h in (name_writable (codes "when") refl, (formula_writable f p.0, (effect_writable e p.1, tt)))
  effect_writable (addition a) h = atom_writable a h
  effect_writable (deletion a) h = (name_writable (codes "not") refl, (atom_writable a h, tt))
  effect_writable (increase a) h = (name_writable (codes "increase") refl, ((name_writable (codes "total-cost") refl, tt), (amount_writable a h, tt)))

  effects_writable : (es : EffectValues) → are_effects es ≡ true → AllOf IsWritable (effect_trees es)
  effects_writable no_effects h = tt
  effects_writable (effect e es) h = let p = and_parts (is_effect e) (are_effects es) h in (effect_writable e p.0, effects_writable es p.1)

-- ---- sections

pub keyword_writable : (n : List ℕ) → is_name n ≡ true → IsWritable (keyword_tree (codes ":" ++ n))
keyword_writable n h = flag_writable n h

pub section_writable : (keyword : List ℕ) (ts : List Tree) → is_name keyword ≡ true → AllOf IsWritable ts → AllOf IsWritable (section_trees (codes ":" ++ keyword) ts)
section_writable keyword [] h all = tt
section_writable keyword (t ∷ ts) h all = (all_writable (keyword_tree (codes ":" ++ keyword) ∷ t ∷ ts) (keyword_writable keyword h, all), tt)

pub all_pass : {A : Type 0} (test : A → Bool) (xs : List A) → list_all test xs ≡ true → AllOf (λ x. test x ≡ true) xs
all_pass test [] h = tt
all_pass test (x ∷ xs) h = let p = and_parts (test x) (list_all test xs) h in (p.0, all_pass test xs p.1)

-- ---- words as pieces

pub name_formed : (n : List ℕ) → is_name n ≡ true → IsWellFormed (name_word n)
name_formed n h = (name_spelled n h, λ bad. absurd (cc (bad)))

pub keyword_formed : (n : List ℕ) → is_name n ≡ true → IsWellFormed (keyword_word (codes ":" ++ n))
keyword_formed n h = ((n, name_spelled n h, refl), λ bad. absurd (cc (bad)))
