-- Settings in which each name is declared alike have the same faults.
use Rattle.std.proofs.Common.{◌≡◌, ◌||◌, not, List, [], ◌∷◌, ◌++◌, map, Option, Some, None, refl, ap, sym, ◌∙◌, find, is_some, flat_map}
use Rattle.pddl_formula.specs.Terms.{TermValue, name, variable}
use Rattle.pddl_formula.specs.TypedLists.{TypedValue}
use Rattle.pddl_domain.specs.Declarations.{TypeValue, Signature}
use Rattle.pddl_task.specs.Names.{Name, is_in, word_if, item_of, is_named}
use Rattle.pddl_task.specs.Places.{Part, says, calls, equates, binds, counts, at}
use Rattle.pddl_task.specs.Settings.{Setting}
use Rattle.pddl_task.specs.Faults.{variables_at, repeated_at, unknown_term, typed_term, takes_others, is_misfit, some_misfit, has_misfit}
use Rattle.pddl_faults.specs.Found.{numbered}
use Rattle.pddl_types.specs.Told.{unknown_among}
use Rattle.pddl_types.specs.Signatures.{signature_among}
use Rattle.pddl_types.proofs.SignatureTables.{is_among}
use Rattle.pddl_names.specs.Uses.{use_faults, place_faults, faults_of_use}

-- the same types and objects, and the same signatures by name
pub record AreAlike (s u : Setting) : Type 0 where
  pub pairs : s.pairs ≡ u.pairs
  pub predicates : (n : Name) → signature_among s.predicates n ≡ signature_among u.predicates n
  pub functions : (n : Name) → signature_among s.functions n ≡ signature_among u.functions n
  pub objects : s.objects ≡ u.objects

module _ (s u : Setting) (alike : AreAlike s u) where
  module _ (b : List TypedValue) where
    unknown_alike : (t : TermValue) → unknown_term s b t ≡ unknown_term u b t
    unknown_alike (name n) = ap (λ os. word_if (not (is_in (map item_of os) n)) n) alike.objects
    unknown_alike (variable x) = refl

    typed_alike : (t : TermValue) → typed_term s b t ≡ typed_term u b t
    typed_alike (name n) = ap (find (is_named n)) alike.objects
    typed_alike (variable x) = refl

    unknown_all : (ts : List TermValue) → flat_map (unknown_term s b) ts ≡ flat_map (unknown_term u b) ts
    unknown_all [] = refl
    unknown_all (t ∷ ts) = λ i. unknown_alike t i ++ unknown_all ts i

    misfits_alike : (ts : List TermValue) (xs : List TypedValue) → some_misfit s b ts xs ≡ some_misfit u b ts xs
    misfits_alike [] xs = refl
    misfits_alike (t ∷ ts) [] = refl
    misfits_alike (t ∷ ts) (x ∷ xs) = λ i. is_misfit (alike.pairs i) (typed_alike t i) x || misfits_alike ts xs i

    has_alike : (ts : List TermValue) (g : Option Signature) → has_misfit s b ts g ≡ has_misfit u b ts g
    has_alike ts None = refl
    has_alike ts (Some g) = misfits_alike ts g.parameters

    -- a name with its terms
    uses_alike : (n : Name) (ts : List TermValue) (ps qs : List Signature) → signature_among ps n ≡ signature_among qs n
        → faults_of_use s b (record { name = n; terms = ts; declared = ps }) ≡ faults_of_use u b (record { name = n; terms = ts; declared = qs })
    uses_alike n ts ps qs same =
        let there = sym (is_among ps n) ∙ ap is_some same ∙ is_among qs n in
        let misfit = ap (has_misfit s b ts) same ∙ has_alike ts (signature_among qs n) in
        λ i. numbered 26 (word_if (not (there i)) n ++ unknown_all ts i) ++ (numbered 27 (word_if (takes_others (same i) ts) n) ++ numbered 28 (word_if (misfit i) n))

    part_alike : (part : Part) → use_faults s (at b part) ≡ use_faults u (at b part)
    part_alike (says a) = uses_alike a.predicate a.terms s.predicates u.predicates (alike.predicates a.predicate)
    part_alike (calls f) = uses_alike f.function f.terms s.functions u.functions (alike.functions f.function)
    part_alike (equates t v) = ap (λ ws. numbered 26 ws ++ []) (unknown_all (t ∷ v ∷ []))
    part_alike (binds xs) = refl
    part_alike (counts f n) = refl

  -- the same faults at each place
  pub faults_alike : (types : List TypeValue) → place_faults types s ≡ place_faults types u
  faults_alike types = λ i pl. numbered 23 (unknown_among types (variables_at pl)) ++ (numbered 24 (repeated_at pl) ++ part_alike pl.bound pl.part i)
