-- The faults that are looked for at each place, each told by its number and its word, and what is known where they are.
use Rattle.std.specs.Prelude.{not, ℕ, List, ◌++◌, map, All, flat_map}
use Rattle.pddl_formula.specs.TypedLists.{TypedValue}
use Rattle.pddl_domain.specs.Declarations.{TypeValue}
use Rattle.pddl_task.specs.Names.{Name, word_if}
use Rattle.pddl_task.specs.Types.{pairs}
use Rattle.pddl_task.specs.Places.{Place}
use Rattle.pddl_task.specs.Settings.{Setting}
use Rattle.pddl_task.specs.Faults.{Use, variables_at, repeated_at, is_declared, signature_of, unknown_term, takes_others, has_misfit, unknown_at, arity_at, misfit_at, fraction_at}
use Rattle.pddl_faults.specs.Found.{numbered}
use Rattle.pddl_types.specs.KnownNames.{signature_in}
use Rattle.pddl_types.specs.Told.{ToldValue, IsAt, AreTold, unknown_among}
use Rattle.pddl_types.specs.Objects.{IsObjectAt}
use Rattle.pddl_types.specs.Signatures.{AreSlotsAt}
use Rattle.pddl_types.specs.Known.{objects_in}
use Rattle.pddl_types.specs.declared.known.Known.{Known}

-- ---- faults at a place

-- names that are not known, other numbers of terms than declared, terms that do not fit, and numbers that are not whole
abbrev pub use_faults : Setting → Place → List (ℕ × Name)
use_faults s pl = numbered 30 (fraction_at pl) ++ (numbered 26 (unknown_at s pl) ++ (numbered 27 (arity_at s pl) ++ numbered 28 (misfit_at s pl)))

-- behind types of variables that are not known, and variables that stand twice
abbrev pub place_faults : List TypeValue → Setting → Place → List (ℕ × Name)
place_faults declared s pl = numbered 23 (unknown_among declared (variables_at pl)) ++ (numbered 24 (repeated_at pl) ++ use_faults s pl)

-- of these, those of a predicate or a function with its terms
abbrev pub faults_of_use : Setting → List TypedValue → Use → List (ℕ × Name)
faults_of_use s bound u =
    numbered 26 (word_if (not (is_declared u)) u.name ++ flat_map (unknown_term s bound) u.terms)
    ++ (numbered 27 (word_if (takes_others (signature_of u) u.terms) u.name) ++ numbered 28 (word_if (has_misfit s bound u.terms (signature_of u)) u.name))

-- ---- what is known

-- without where it is held
abbrev pub setting_of : {A B : _} → Known A B → Setting
setting_of k = record {
  pairs = pairs k.types.declared;
  predicates = map signature_in k.predicates.entries;
  functions = map signature_in k.functions.entries;
  objects = objects_in k;
}

-- the faults at a place by what is known
abbrev pub faults_by : {A B : _} → Known A B → Place → List (ℕ × Name)
faults_by k = place_faults k.types.declared (setting_of k)

-- the types of all that may be named are told, and those of the variables in scope
pub record AreAllTold {A B : Type 0} (k : Known A B) (told : ToldValue) (scope : List (TypedValue × ℕ)) : Type 0 where
  pub types : AreTold k.types told
  pub predicates : AreSlotsAt told k.predicates.entries
  pub functions : AreSlotsAt told k.functions.entries
  pub objects : All (IsObjectAt told) k.listed.objects.entries
  pub variables : All (λ e. IsAt told e.0.of e.1) scope
