-- Declarations are read as they are spelled.
use Rattle.std.proofs.Common.{◌≡◌, ℕ, false, List, [], ◌∷◌, refl, ap, ◌∙◌, subst, codes}
use Rattle.std.specs.Prelude.{Option, Some, option_map}
use Rattle.pddl_token.specs.Trees.{Tree, leaf, node, list_of}
use Rattle.pddl_token.specs.TreeWords.{list, SpellsName}
use Rattle.pddl_items.specs.Inner.TreeReading.{name_at, is_dash}
use Rattle.pddl_token.proofs.Options.{map_some, bind_some}
use Rattle.pddl_items.proofs.TreeLists.{list_of_trees_of, trees_of_list_of}
use Rattle.pddl_items.proofs.Readers.{Reads, name_reads}
use Rattle.pddl_formula.specs.Terms.{IsPredicate}
use Rattle.pddl_formula.specs.TypedLists.{TypedValue, IsTypeName, IsType, AreTypedVariables}
use Rattle.pddl_formula_reader.specs.Inner.Reading.{predicate_at, type_name_at, type_at, typed_variables}
use Rattle.pddl_formula_reader.proofs.TermLaws.{predicate_reads}
use Rattle.pddl_formula_reader.proofs.TypedListLaws.{Readable, type_name_reads, type_reads, list_sound, list_complete, variables_sound, variables_complete}
use Rattle.pddl_domain.specs.Declarations.{TypeValue, Signature, FunctionValue, AreTypes, IsPredicateSignature, IsFunctionSignature, number, AreFunctions}
use Rattle.pddl_declaration_reader.specs.Inner.DeclarationReading.{signature_of, predicate_of_list, predicate_signature_at, function_of_list, function_signature_at, types_of, functions_of}

-- ---- signatures

module _ (IsHead : List ℕ → Tree → Type 0) (read : Tree → Option (List ℕ)) (reads : Reads IsHead read) where
  signature_sound : (head : Tree) (ts : List Tree) (s : Signature) → signature_of (read head) ts ≡ Some s → IsHead s.name head × AreTypedVariables s.parameters ts
  signature_sound head ts s e =
      let make : List ℕ → List TypedValue → Signature = λ n xs. record { name = n; parameters = xs } in
      let b = bind_some (λ n. option_map (make n) (typed_variables ts)) (read head) s e in
      let m = map_some (make b.0) (typed_variables ts) s b.2 in
      subst (λ (v : Signature). IsHead v.name head × AreTypedVariables v.parameters ts) m.2 (reads.sound head b.0 b.1, variables_sound ts m.0 m.1)

  signature_complete : (head : Tree) (ts : List Tree) (s : Signature) → IsHead s.name head → AreTypedVariables s.parameters ts → signature_of (read head) ts ≡ Some s
  signature_complete head ts s is listed = rw (reads.complete head s.name is, variables_complete ts s.parameters listed) refl

predicate_list_sound : (ts : List Tree) (s : Signature) → predicate_of_list ts ≡ Some s → IsPredicateSignature s (list ts)
predicate_list_sound [] s e = absurd (cc)
predicate_list_sound (head ∷ ts) s e = let h = signature_sound IsPredicate predicate_at predicate_reads head ts s e in (head, ts, refl, h.0, h.1)

predicate_signature_sound : (t : Tree) (s : Signature) → predicate_signature_at t ≡ Some s → IsPredicateSignature s t
predicate_signature_sound (leaf w) s e = absurd (cc)
predicate_signature_sound (node ts) s e = subst (λ us. IsPredicateSignature s (node us)) (trees_of_list_of ts) (predicate_list_sound (list_of ts) s e)

predicate_signature_complete : (t : Tree) (s : Signature) → IsPredicateSignature s t → predicate_signature_at t ≡ Some s
predicate_signature_complete t s (head, ts, is, name, listed) =
    ap predicate_signature_at is ∙ (ap predicate_of_list (list_of_trees_of (head ∷ ts)) ∙ signature_complete IsPredicate predicate_at predicate_reads head ts s name listed)

pub predicate_signature_reads : Reads IsPredicateSignature predicate_signature_at
predicate_signature_reads = record { sound = predicate_signature_sound; complete = predicate_signature_complete }

function_list_sound : (ts : List Tree) (s : Signature) → function_of_list ts ≡ Some s → IsFunctionSignature s (list ts)
function_list_sound [] s e = absurd (cc)
function_list_sound (head ∷ ts) s e = let h = signature_sound SpellsName name_at name_reads head ts s e in (head, ts, refl, h.0, h.1)

function_signature_sound : (t : Tree) (s : Signature) → function_signature_at t ≡ Some s → IsFunctionSignature s t
function_signature_sound (leaf w) s e = absurd (cc)
function_signature_sound (node ts) s e = subst (λ us. IsFunctionSignature s (node us)) (trees_of_list_of ts) (function_list_sound (list_of ts) s e)

function_signature_complete : (t : Tree) (s : Signature) → IsFunctionSignature s t → function_signature_at t ≡ Some s
function_signature_complete t s (head, ts, is, name, listed) =
    ap function_signature_at is ∙ (ap function_of_list (list_of_trees_of (head ∷ ts)) ∙ signature_complete SpellsName name_at name_reads head ts s name listed)

pub function_signature_reads : Reads IsFunctionSignature function_signature_at
function_signature_reads = record { sound = function_signature_sound; complete = function_signature_complete }

-- ---- types and functions

type_no_dash : (t : Tree) (n : List ℕ) → IsTypeName n t → is_dash t ≡ false
type_no_dash (leaf w) n ((good, (kind, is)), other) = rw kind refl
type_no_dash (node ts) n ((good, none), other) = absurd none

readable_types : Readable IsTypeName IsTypeName type_name_at type_name_at
readable_types = record { items = type_name_reads; types = type_name_reads; no_dash = type_no_dash }

pub types_sound : (ts : List Tree) (xs : List TypeValue) → types_of ts ≡ Some xs → AreTypes xs ts
types_sound = list_sound IsTypeName IsTypeName type_name_at type_name_at readable_types (codes "object")

pub types_complete : (ts : List Tree) (xs : List TypeValue) → AreTypes xs ts → types_of ts ≡ Some xs
types_complete = list_complete IsTypeName IsTypeName type_name_at type_name_at readable_types (codes "object")

function_no_dash : (t : Tree) (s : Signature) → IsFunctionSignature s t → is_dash t ≡ false
function_no_dash t s (head, ts, is, name, listed) = ap is_dash is

readable_functions : Readable IsFunctionSignature IsType function_signature_at type_at
readable_functions = record { items = function_signature_reads; types = type_reads; no_dash = function_no_dash }

pub functions_sound : (ts : List Tree) (xs : List FunctionValue) → functions_of ts ≡ Some xs → AreFunctions xs ts
functions_sound = list_sound IsFunctionSignature IsType function_signature_at type_at readable_functions number

pub functions_complete : (ts : List Tree) (xs : List FunctionValue) → AreFunctions xs ts → functions_of ts ≡ Some xs
functions_complete = list_complete IsFunctionSignature IsType function_signature_at type_at readable_functions number
