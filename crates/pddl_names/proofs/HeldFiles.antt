-- What is known of files: the faults that are looked for by it, and that it is known while more types are told; and goals that are too large.
use Rattle.std.proofs.Common.{◌≡◌, ℕ, ◌<◌, true, List, [], refl, ap, ◌∙◌, arith, Contains, nat_lt}
use Rattle.std.proofs.lemmas.List.Elements.{All-nil}
use Rattle.pddl_formula.specs.TypedLists.{TypedValue}
use Rattle.pddl_domain.specs.Domains.{DomainValue}
use Rattle.pddl_task.specs.Names.{firsts, word_if}
use Rattle.pddl_task.specs.GroundSize.{capped}
use Rattle.pddl_task.specs.Types.{pairs}
use Rattle.pddl_task.specs.Settings.{setting}
use Rattle.pddl_types.specs.Told.{ToldValue, IsAt, AreTold, AreKept}
use Rattle.pddl_types.specs.Objects.{AreSeen}
use Rattle.pddl_types.specs.Known.{AreKnown}
use Rattle.pddl_types.specs.declared.known.Known.{Known}
use Rattle.pddl_types.specs.declared.listed.Listed.{Listed}
use Rattle.pddl_types.proofs.SignatureTables.{have_still}
use Rattle.pddl_names.specs.Uses.{place_faults, faults_by, AreAllTold}
use Rattle.pddl_names.proofs.SameSettings.{faults_alike}

module _ {A B : Type 0} {d : DomainValue} {objects : List TypedValue} {k : Known A B} {told : ToldValue} (are : AreKnown d objects k told) where
  -- what is known has the faults of the domain with these objects
  pub known_faults : faults_by k ≡ place_faults d.types (setting d (firsts objects))
  known_faults =
      faults_alike _ (setting d _) (record { pairs = ap pairs are.typed; predicates = are.predicates.first.first; functions = are.functions.first.first; objects = are.listed.objects }) k.types.declared
      ∙ ap (λ ts. place_faults ts (setting d (firsts objects))) are.typed

  -- where nothing is bound, the types of all that may be named are told
  pub nothing_bound : AreAllTold k told []
  nothing_bound =
      record { types = are.types; predicates = are.predicates.slots; functions = are.functions.slots; objects = are.listed.each; variables = All-nil (λ e. IsAt told e.0.of e.1) }

  -- and it is known where they are told otherwise
  pub known_still : {after : ToldValue} {scope : List (TypedValue × ℕ)} → AreAllTold k after scope → AreKnown d objects k after
  known_still now = record {
    typed = are.typed;
    types = now.types;
    predicates = record { first = are.predicates.first; slots = now.predicates };
    functions = record { first = are.functions.first; slots = now.functions };
    actions = are.actions;
    listed = record { objects = are.listed.objects; each = now.objects };
  }

  -- and with other objects, where more is told
  pub known_more : {more : List TypedValue} {listed : Listed A B} {after : ToldValue} → AreTold k.types after → AreKept told after → AreSeen after more listed
      → AreKnown d more (record { types = k.types; listed = listed; predicates = k.predicates; functions = k.functions; actions = k.actions }) after
  known_more types kept seen =
      record { typed = are.typed; types = types; predicates = have_still kept are.predicates; functions = have_still kept are.functions; actions = are.actions; listed = seen }

-- ---- goals

-- a size over the limit is a fault, which has no word
pub too_large : (size r : ℕ) → r ≡ capped size → 1000000 < r → Contains (word_if (nat_lt 1000000 size) []) []
too_large size r is over =
    let large : nat_lt 1000000 size ≡ true = grind (arith, is, over) in
    rw large (0, omega arith, refl)
