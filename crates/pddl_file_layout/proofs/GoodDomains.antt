-- A domain that some text spells is one that the program can hold.
use Rattle.std.proofs.Common.{◌≡◌, ℕ, Bool, true, false, ◌&&◌, List, [], ◌∷◌, map, refl, ap, ◌∙◌, codes}
use Rattle.std.specs.List.{flat_map, list_all}
use Rattle.std.proofs.lemmas.Bool.{and_from}
use Rattle.pddl_token.specs.Trees.{Tree, leaf, node, Placed, erased}
use Rattle.pddl_token.specs.Names.{is_name}
use Rattle.pddl_token.specs.TreeWords.{Each}
use Rattle.pddl_items.proofs.Readers.{each_good}
use Rattle.pddl_formula.specs.Reserved.{is_predicate, is_type_name, is_type}
use Rattle.pddl_formula.specs.TypedLists.{IsTypeName, IsType}
use Rattle.pddl_formula.specs.Formulas.{conjunction, no_formulas}
use Rattle.pddl_effect.specs.Effects.{conjunction as all_effects, no_effects}
use Rattle.pddl_file.specs.Flags.{IsFlag}
use Rattle.pddl_domain.specs.Declarations.{TypeValue, Signature, FunctionValue, AreTypes, IsPredicateSignature, IsFunctionSignature, number, AreFunctions}
use Rattle.pddl_domain.specs.Actions.{ActionValue, Field, parameters, precondition, effect, parameters_in, preconditions_in, effects_in, OnlyOr, IsField, AreFields, IsAction}
use Rattle.pddl_domain.specs.Domains.{DomainValue}
use Rattle.pddl_domain_reader.specs.DomainTexts.{Part, requirements, types, constants, predicates, functions, action, requirements_in, types_in, constants_in, predicates_in, functions_in, actions_in, IsContent, IsPart, AreDomain}
use Rattle.pddl_file_layout.specs.FormulaValues.{is_typed, is_formula, is_effect}
use Rattle.pddl_file_layout.specs.DomainLayout.{is_declared_type, is_declared_predicate, is_declared_function, is_action, is_domain}
use Rattle.pddl_file_layout.proofs.GoodFormulas.{all_append, name_good, predicate_good, type_name_good, type_good, list_good, typed_names_good, typed_variables_good, variables_good, condition_good, whole_effect_good}

-- ---- declarations

pub flag_good : (n : List ℕ) (t : Tree) → IsFlag n t → is_name n ≡ true
flag_good n (leaf w) (good, kind, spelled) = good
flag_good n (node ts) none = absurd none

types_good : (ts : List TypeValue) (trees : List Tree) → AreTypes ts trees → list_all is_declared_type ts ≡ true
types_good ts trees listed =
    list_good IsTypeName IsTypeName (codes "object") is_declared_type
    (λ x t is type of found. and_from (is_type_name x.item) (is_type_name x.of) (type_name_good x.item t is) (ap is_type_name of ∙ type_name_good type found.0 found.1))
    (λ x t is of. and_from (is_type_name x.item) (is_type_name x.of) (type_name_good x.item t is) (ap is_type_name of)) listed

predicate_part_good : (p : Signature) (t : Tree) → IsPredicateSignature p t → is_declared_predicate p ≡ true
predicate_part_good p t (head, ts, is, predicate, listed) =
    and_from (is_predicate p.name) (list_all is_typed p.parameters) (predicate_good p.name head predicate) (typed_variables_good p.parameters ts listed)

signature_good : (s : Signature) (t : Tree) → IsFunctionSignature s t → (is_name s.name && list_all is_typed s.parameters) ≡ true
signature_good s t (head, ts, is, spelled, listed) =
    and_from (is_name s.name) (list_all is_typed s.parameters) (name_good s.name head spelled) (typed_variables_good s.parameters ts listed)

functions_good : (fs : List FunctionValue) (trees : List Tree) → AreFunctions fs trees → list_all is_declared_function fs ≡ true
functions_good fs trees listed =
    list_good IsFunctionSignature IsType number is_declared_function
    (λ x t is type of found. and_from (is_name x.item.name && list_all is_typed x.item.parameters) (is_type x.of) (signature_good x.item t is) (ap is_type of ∙ type_good found.1))
    (λ x t is of. and_from (is_name x.item.name && list_all is_typed x.item.parameters) (is_type x.of) (signature_good x.item t is) (ap is_type of)) listed

-- ---- actions

only_good : {X : Type 0} (test : X → Bool) (default : X) (xs : List X) (x : X) → test default ≡ true → list_all test xs ≡ true → OnlyOr default xs x → test x ≡ true
only_good test default [] x good all is = ap test is ∙ good
only_good test default (y ∷ []) x good all is = ap test is ∙ first (test y) true all
  where
    first : (a b : Bool) → (a && b) ≡ true → a ≡ true
    first true b h = refl
    first false b h = absurd (cc)
only_good test default (y ∷ z ∷ ys) x good all bad = absurd bad

module _ {X : Type 0} (test : X → Bool) (add : Field → List X) (good : (field : Field) (key t : Tree) → IsField field key t → list_all test (add field) ≡ true) where
  fields_good : (fields : List Field) (ts : List Tree) → AreFields fields ts → list_all test (flat_map add fields) ≡ true
  fields_good [] ts are = refl
  fields_good (field ∷ fields) [] bad = absurd bad
  fields_good (field ∷ fields) (key ∷ []) bad = absurd bad
  fields_good (field ∷ fields) (key ∷ t ∷ ts) (here, rest) = all_append test (add field) (flat_map add fields) (good field key t here) (fields_good fields ts rest)

parameters_field : (field : Field) (key t : Tree) → IsField field key t → list_all (λ xs. list_all is_typed xs) (parameters_in field) ≡ true
parameters_field (parameters xs) key t (word, listed) = and_from (list_all is_typed xs) true (variables_good xs t listed) refl
parameters_field (precondition f) key t is = refl
parameters_field (effect e) key t is = refl

precondition_field : (field : Field) (key t : Tree) → IsField field key t → list_all is_formula (preconditions_in field) ≡ true
precondition_field (parameters xs) key t is = refl
precondition_field (precondition f) key t (word, condition) = and_from (is_formula f) true (condition_good f t condition) refl
precondition_field (effect e) key t is = refl

effect_field : (field : Field) (key t : Tree) → IsField field key t → list_all is_effect (effects_in field) ≡ true
effect_field (parameters xs) key t is = refl
effect_field (precondition f) key t is = refl
effect_field (effect e) key t (word, whole) = and_from (is_effect e) true (whole_effect_good e t whole) refl

action_good : (a : ActionValue) (ts : List Tree) → IsAction a ts → is_action a ≡ true
action_good a ts s =
    and_from (is_name a.name && list_all is_typed a.parameters) (is_formula a.precondition && is_effect a.effect)
    (and_from (is_name a.name) (list_all is_typed a.parameters) (name_good a.name s.title s.name)
    (only_good (λ xs. list_all is_typed xs) [] (flat_map parameters_in s.fields) a.parameters refl (fields_good (λ xs. list_all is_typed xs) parameters_in parameters_field s.fields s.rest s.fields_are) s.parameters_are))
    (and_from (is_formula a.precondition) (is_effect a.effect)
    (only_good is_formula (conjunction no_formulas) (flat_map preconditions_in s.fields) a.precondition refl (fields_good is_formula preconditions_in precondition_field s.fields s.rest s.fields_are) s.precondition_is)
    (only_good is_effect (all_effects no_effects) (flat_map effects_in s.fields) a.effect refl (fields_good is_effect effects_in effect_field s.fields s.rest s.fields_are) s.effect_is))

-- ---- sections

module _ {X : Type 0} (test : X → Bool) (add : Part → List X) (good : (part : Part) (ts : List Tree) → IsContent part ts → list_all test (add part) ≡ true) where
  sections_good : (parts : List Part) (ts : List Tree) → Each IsPart parts ts → list_all test (flat_map add parts) ≡ true
  sections_good [] ts each = refl
  sections_good (part ∷ parts) [] each = absurd each
  sections_good (part ∷ parts) (t ∷ ts) ((us, section, content), rest) = all_append test (add part) (flat_map add parts) (good part us content) (sections_good parts ts rest)

requirements_section : (part : Part) (ts : List Tree) → IsContent part ts → list_all is_name (requirements_in part) ≡ true
requirements_section (requirements flags) ts is = each_good is_name IsFlag flag_good flags ts is
requirements_section (types xs) ts is = refl
requirements_section (constants xs) ts is = refl
requirements_section (predicates ps) ts is = refl
requirements_section (functions fs) ts is = refl
requirements_section (action a) ts is = refl

types_section : (part : Part) (ts : List Tree) → IsContent part ts → list_all is_declared_type (types_in part) ≡ true
types_section (requirements flags) ts is = refl
types_section (types xs) ts is = types_good xs ts is
types_section (constants xs) ts is = refl
types_section (predicates ps) ts is = refl
types_section (functions fs) ts is = refl
types_section (action a) ts is = refl

constants_section : (part : Part) (ts : List Tree) → IsContent part ts → list_all is_typed (constants_in part) ≡ true
constants_section (requirements flags) ts is = refl
constants_section (types xs) ts is = refl
constants_section (constants xs) ts is = typed_names_good xs ts is
constants_section (predicates ps) ts is = refl
constants_section (functions fs) ts is = refl
constants_section (action a) ts is = refl

predicates_section : (part : Part) (ts : List Tree) → IsContent part ts → list_all is_declared_predicate (predicates_in part) ≡ true
predicates_section (requirements flags) ts is = refl
predicates_section (types xs) ts is = refl
predicates_section (constants xs) ts is = refl
predicates_section (predicates ps) ts is = each_good is_declared_predicate IsPredicateSignature predicate_part_good ps ts is
predicates_section (functions fs) ts is = refl
predicates_section (action a) ts is = refl

functions_section : (part : Part) (ts : List Tree) → IsContent part ts → list_all is_declared_function (functions_in part) ≡ true
functions_section (requirements flags) ts is = refl
functions_section (types xs) ts is = refl
functions_section (constants xs) ts is = refl
functions_section (predicates ps) ts is = refl
functions_section (functions fs) ts is = functions_good fs ts is
functions_section (action a) ts is = refl

actions_section : (part : Part) (ts : List Tree) → IsContent part ts → list_all is_action (actions_in part) ≡ true
actions_section (requirements flags) ts is = refl
actions_section (types xs) ts is = refl
actions_section (constants xs) ts is = refl
actions_section (predicates ps) ts is = refl
actions_section (functions fs) ts is = refl
actions_section (action a) ts is = and_from (is_action a) true (action_good a ts is) refl

pub domain_good : (d : DomainValue) (items : List Placed) → AreDomain d items → is_domain d ≡ true
domain_good d items s =
    let trees = map erased s.file.sections in
    let each = s.file.fits.each in
    let opens = s.file.opened.opens in
    and_from ((is_name d.name && list_all is_name d.requirements) && (list_all is_declared_type d.types && list_all is_typed d.constants))
    ((list_all is_declared_predicate d.predicates && list_all is_declared_function d.functions) && list_all is_action d.actions)
    (and_from (is_name d.name && list_all is_name d.requirements) (list_all is_declared_type d.types && list_all is_typed d.constants)
    (and_from (is_name d.name) (list_all is_name d.requirements) (name_good d.name opens.is_title.1 opens.is_title.4)
    (ap (list_all is_name) s.requirements_are ∙ sections_good is_name requirements_in requirements_section s.parts trees each))
    (and_from (list_all is_declared_type d.types) (list_all is_typed d.constants)
    (ap (list_all is_declared_type) s.types_are ∙ sections_good is_declared_type types_in types_section s.parts trees each)
    (ap (list_all is_typed) s.constants_are ∙ sections_good is_typed constants_in constants_section s.parts trees each)))
    (and_from (list_all is_declared_predicate d.predicates && list_all is_declared_function d.functions) (list_all is_action d.actions)
    (and_from (list_all is_declared_predicate d.predicates) (list_all is_declared_function d.functions)
    (ap (list_all is_declared_predicate) s.predicates_are ∙ sections_good is_declared_predicate predicates_in predicates_section s.parts trees each)
    (ap (list_all is_declared_function) s.functions_are ∙ sections_good is_declared_function functions_in functions_section s.parts trees each))
    (ap (list_all is_action) s.actions_are ∙ sections_good is_action actions_in actions_section s.parts trees each))
