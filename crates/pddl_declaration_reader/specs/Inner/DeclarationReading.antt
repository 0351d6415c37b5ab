-- The predicates, functions and types that trees declare, computed from the trees, for the readers above. What they mean stands in Declarations.
use Rattle.std.specs.Prelude.{ℕ, List, [], ◌∷◌, Option, None, option_map, option_and_then, codes}
use Rattle.pddl_token.specs.Trees.{Tree, leaf, node, list_of}
use Rattle.pddl_items.specs.Inner.TreeReading.{name_at}
use Rattle.pddl_formula_reader.specs.Inner.Reading.{predicate_at, type_name_at, type_at, typed_list, typed_variables}
use Rattle.pddl_domain.specs.Declarations.{TypeValue, Signature, FunctionValue, number}

-- the signature of this name and these parameters
abbrev pub signature_of : Option (List ℕ) → List Tree → Option Signature
signature_of name ts = option_and_then (λ n. option_map (λ xs. record { name = n; parameters = xs }) (typed_variables ts)) name

abbrev pub predicate_of_list : List Tree → Option Signature
predicate_of_list [] = None
predicate_of_list (head ∷ ts) = signature_of (predicate_at head) ts

abbrev pub predicate_signature_at : Tree → Option Signature
predicate_signature_at (leaf w) = None
predicate_signature_at (node ts) = predicate_of_list (list_of ts)

abbrev pub function_of_list : List Tree → Option Signature
function_of_list [] = None
function_of_list (head ∷ ts) = signature_of (name_at head) ts

abbrev pub function_signature_at : Tree → Option Signature
function_signature_at (leaf w) = None
function_signature_at (node ts) = function_of_list (list_of ts)

abbrev pub types_of : List Tree → Option (List TypeValue)
types_of ts = typed_list type_name_at type_name_at (codes "object") ts

abbrev pub functions_of : List Tree → Option (List FunctionValue)
functions_of ts = typed_list function_signature_at type_at number ts
