-- The faults of a predicate or a function with its terms.
use Rattle.std.proofs.Common.{arith, ◌≡◌, ◌≤◌, ℕ, Bool, ◌||◌, true, false, not, ◌∷◌, refl, List, [], ◌++◌, map, length, drop, ◌==◌, Some, None, Result, Err, ap, sym, ◌∙◌, bytes_eq, Contains, is_some, option_map, flat_map, Bor, eq-eqb, ne_eqb}
use Rattle.std.specs.Map.{lookup}
use Rattle.std.proofs.Math.Bool.{or-false}
use Rattle.std.proofs.lemmas.List.{drop_all}
use Rattle.std.proofs.lemmas.List.Elements.{All-contains}
use Rattle.pddl_formula.specs.Terms.{TermValue}
use Rattle.pddl_formula.specs.TypedLists.{TypedValue, typed_view}
use Rattle.pddl_task.specs.Names.{Name, word_if}
use Rattle.pddl_task.specs.Settings.{Setting}
use Rattle.pddl_task.specs.Faults.{Use, is_declared, signature_of, unknown_term, some_misfit}
use Rattle.pddl_task.proofs.Lists.{at_place, bytes_same, has_first}
use Rattle.pddl_faults.specs.declared.fault.LinkFault.{LinkFault}
use Rattle.pddl_faults.specs.declared.fault.LinkFault.TheVariants as link
use Rattle.pddl_faults.specs.Passes.{Passes}
use Rattle.pddl_faults.specs.Found.{IsFound, numbered}
use Rattle.pddl_faults.proofs.FoundFaults.{passed_found}
use Rattle.pddl_types.specs.KnownNames.{signature_in}
use Rattle.pddl_types.specs.Told.{ToldValue}
use Rattle.pddl_types.specs.Signatures.{Rows, IsSlotsAt, AreSlotsAt, signature_among}
use Rattle.pddl_types.specs.declared.signatures.Slots.{Slots}
use Rattle.pddl_types.proofs.Lookups.{is_symbol, entry_at}
use Rattle.pddl_names.specs.Uses.{faults_of_use}
use Rattle.pddl_names.proofs.FoundParts.{from_parts, passed_first}

-- the signature of a name, where its slots are found
signature_here : {A B : Type 0} (es : Rows A B) (n : Name)
    → signature_among (map signature_in es) n ≡ option_map (λ (v : Slots A B). record { name = n; parameters = map typed_view v.parameters.now }) (lookup (λ k. bytes_eq n k.now) es)
signature_here [] n = refl
signature_here (e ∷ es) n = grind (arith, signature_here es n, bytes_same n e.0.now)

module _ {A B : Type 0} (s : Setting) (b : List TypedValue) (ts : List TermValue) (es : Rows A B) (w : Bor Name) where
  abbrev used : Use
  used = record { name = w.now; terms = ts; declared = map signature_in es }

  -- a name that is not found is a fault
  pub undeclared_found : None ≡ lookup (λ k. bytes_eq w.now k.now) es → IsFound {T = Unit {0}} (faults_of_use s b used) (Err (link.UnknownName w))
  undeclared_found at =
      let none : is_declared used ≡ false = sym (is_symbol es w.now) ∙ ap is_some (sym at) in
      rw none (passed_first 26 (w.now ∷ flat_map (unknown_term s b) ts) _ (link.UnknownName w) (refl, has_first w.now _) (simp from_parts))

  module _ (slots : Slots A B) (at : Some slots ≡ lookup (λ k. bytes_eq w.now k.now) es) where
    abbrev words : List Name
    words = flat_map (unknown_term s b) ts

    abbrev xs : List TypedValue
    xs = map typed_view slots.parameters.now

    -- the types of the slots of a name that is found are told, where those of all names are
    pub declared_slots : (told : ToldValue) → AreSlotsAt told es → IsSlotsAt told slots
    declared_slots told are =
        let (k, there, named) = entry_at es w.now slots (sym at) in
        All-contains (λ (e : Bor (List ℕ) × Slots A B). IsSlotsAt told e.1) es (k, slots) are (at_place es _ (k, slots) there)

    -- its faults are these
    declared_is : faults_of_use s b used
        ≡ numbered 26 words ++ (numbered 27 (word_if (not (length ts == length xs)) w.now) ++ numbered 28 (word_if (some_misfit s b ts xs) w.now))
    declared_is =
        let on : is_declared used ≡ true = sym (is_symbol es w.now) ∙ ap is_some (sym at) in
        let found : signature_of used ≡ Some (record { name = w.now; parameters = xs }) = signature_here es w.now ∙ ap (option_map _) (sym at) in
        rw (on, found) refl

    -- a term is not known
    pub unknown_found : (v : Bor Name) → Contains words v.now → IsFound {T = Unit {0}} (faults_of_use s b used) (Err (link.UnknownName v))
    unknown_found v has = rw declared_is (passed_first 26 words _ (link.UnknownName v) (refl, has) (simp from_parts))

    -- all are known, as far as they go
    module _ (i : ℕ) (past : length ts ≤ i) (left : flat_map (unknown_term s b) (drop i ts) ≡ words) where
      known : words ≡ []
      known = sym left ∙ ap (flat_map (unknown_term s b)) (drop_all i ts past)

      -- there is another number of terms
      pub others_found : (length ts ≡ length xs → ⊥) → IsFound {T = Unit {0}} (faults_of_use s b used) (Err (link.Arity w))
      others_found are = rw (declared_is, known, ne_eqb (length ts) (length xs) are) (passed_first 27 (w.now ∷ []) _ (link.Arity w) (refl, has_first w.now []) (simp from_parts))

      -- there are as many terms as slots, and some does not fit, or all do
      pub misfit_found : (all : Bool) (r : Result (Unit {0}) LinkFault) → length ts ≡ length xs → (not all || some_misfit s b (drop i ts) (drop i xs)) ≡ some_misfit s b ts xs
          → Passes 28 (word_if (not all) w.now) r → IsFound (faults_of_use s b used) r
      misfit_found all r same fit h =
          let none : some_misfit s b ts xs ≡ not all = sym fit ∙ rw (drop_all i ts past) (or-false (not all)) in
          rw (declared_is, known, eq-eqb (length ts) (length xs) same, none) (passed_found 28 (word_if (not all) w.now) r h)
