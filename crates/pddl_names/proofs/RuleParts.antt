-- The faults that are looked for in parts are those that the rules of linking name.
use Rattle.std.proofs.Common.{◌≡◌, ◌≤◌, ℕ, Bool, true, false, ◌==◌, cond, List, [], ◌∷◌, ◌++◌, Option, Some, None, Result, Ok, Err, IfSome, map, drop, refl, sym, ap, ◌∙◌, subst, arith, append_assoc, inl, inr, Contains, filter}
use Rattle.std.specs.List.{AllByRecursion, list_all, list_any, flat_map}
use Rattle.std.proofs.lemmas.Bool.Decides.{nat_tests}
use Rattle.std.proofs.lemmas.List.{map-append}
use Rattle.std.proofs.lemmas.List.Concat.{flat_map-append}
use Rattle.std.proofs.lemmas.List.Elements.{filter-append}
use Rattle.std.proofs.lemmas.List.Folds.{list_all-append}
use Rattle.pddl_domain.specs.Declarations.{TypeValue}
use Rattle.pddl_domain.specs.Actions.{ActionValue}
use Rattle.pddl_domain.specs.Domains.{DomainValue}
use Rattle.pddl_problem.specs.Problems.{ProblemValue}
use Rattle.pddl_task.specs.Names.{Name, is_in, word_if, repeated}
use Rattle.pddl_task.specs.Places.{Place, action_places, domain_places, problem_places}
use Rattle.pddl_task.specs.Settings.{symbol_of, function_signatures, Setting}
use Rattle.pddl_task.specs.Faults.{unknown_types, domain_typed, problem_typed, retyped, variables_at, repeated_at, repeated_in_actions}
use Rattle.pddl_task.specs.Linked.{Fault, fault_in, NoneStands, IsLowest}
use Rattle.pddl_task.proofs.Lists.{all_found, any_found, append-none, nil_parts, both_nil, has_cases, has_first, has_none, is_kept, is_mapped, kept_is, mapped_is}
use Rattle.pddl_faults.specs.declared.fault.LinkFault.{LinkFault}
use Rattle.pddl_faults.specs.Passes.{fault_of, Passes, Verdict}
use Rattle.pddl_faults.specs.Found.{IsLowestOf, IsFound, numbered}
use Rattle.pddl_faults.proofs.FoundFaults.{found_rest}
use Rattle.pddl_faults.proofs.PassedParts.{pass_front}
use Rattle.pddl_faults.proofs.Verdicts.{found_at}
use Rattle.pddl_types.specs.Told.{unknown_among}
use Rattle.pddl_types.specs.Objects.{off_types}
use Rattle.pddl_types.specs.Known.{declared_typed}
use Rattle.pddl_types.proofs.UnknownTypes.{unknown-append}
use Rattle.pddl_names.specs.Uses.{place_faults}
use Rattle.pddl_names.specs.FaultParts.{joined, action_faults, domain_parts, problem_parts, part_rules}
use Rattle.pddl_names.proofs.FoundParts.{from_parts}
use Rattle.pddl_names.proofs.OffTypes.{within_both, off_within, none_retyped}

-- ---- words by number

-- the words of the faults with a number
abbrev words_of : ℕ → List (ℕ × Name) → List Name
words_of n fs = map (λ (f : ℕ × Name). f.1) (filter (λ (f : ℕ × Name). f.0 == n) fs)

words-append : (n : ℕ) (xs ys : List (ℕ × Name)) → words_of n (xs ++ ys) ≡ words_of n xs ++ words_of n ys
words-append n xs ys = simp (filter-append, map-append)

words-numbered : (n m : ℕ) (ws : List Name) → words_of n (numbered m ws) ≡ cond (m == n) ws []
words-numbered n m [] = grind arith
words-numbered n m (w ∷ ws) = grind (arith, words-numbered n m ws)

words-flat : {X : Type 0} (n : ℕ) (f : X → List (ℕ × Name)) (xs : List X) → words_of n (flat_map f xs) ≡ flat_map (λ x. words_of n (f x)) xs
words-flat n f [] = refl
words-flat n f (x ∷ xs) = simp (words-append, words-flat n f xs)

has_word : (n : ℕ) (w : Name) (fs : List (ℕ × Name)) → Contains fs (n, w) → Contains (words_of n fs) w
has_word n w fs c = is_mapped (λ (f : ℕ × Name). f.1) (filter (λ (f : ℕ × Name). f.0 == n) fs) (n, w) (is_kept (λ (f : ℕ × Name). f.0 == n) fs (n, w) c (grind (arith, nat_tests)))

same_number : (m n : ℕ) → (m == n) ≡ true → m ≡ n
same_number m n h = grind (arith, nat_tests, h)

word_has : (n : ℕ) (w : Name) (fs : List (ℕ × Name)) → Contains (words_of n fs) w → (f : ℕ × Name) × Contains fs f × (f.0 ≡ n)
word_has n w fs c =
    let m = mapped_is (λ (f : ℕ × Name). f.1) (filter (λ (f : ℕ × Name). f.0 == n) fs) w c in
    let k = kept_is (λ (f : ℕ × Name). f.0 == n) fs m.0 m.1 in
    (m.0, k.0, same_number m.0.0 n k.1)

-- ---- what is found, number by number, and rules

-- what is found with the number of a fault is a word of it, and where nothing is found it has no word
pub record Tells (all : List (ℕ × Name)) (f : Fault) : Type 0 where
  pub stands : (w : Name) → Contains (words_of f.number all) w → Contains f.words w
  pub none : words_of f.number all ≡ [] → f.words ≡ []

-- as where those are its words
told : (all : List (ℕ × Name)) (n : ℕ) (words : List Name) → words_of n all ≡ words → Tells all (record { number = n; words = words })
told all n words is = record { stands = λ w. subst (λ ws. Contains ws w) is; none = λ none. sym is ∙ none }

none_stands : (all : List (ℕ × Name)) (fs : List Fault) → AllByRecursion (Tells all) fs → all ≡ [] → NoneStands fs
none_stands all [] tell none = tt
none_stands all (f ∷ fs) tell none = (tell.0.none (ap (words_of f.number) none), none_stands all fs tell.1 none)

tells : (all : List (ℕ × Name)) (fs : List Fault) → AllByRecursion (Tells all) fs → (f : Fault) → Contains fs f → Tells all f
tells all [] tell f c = absurd (has_none f c)
tells all (g ∷ fs) tell f c = elim (has_cases g fs f c) as (λ _. Tells all f) [ inl is ↦ subst (Tells all) is tell.0 | inr later ↦ tells all fs tell.1 f later ]

module _ (all : List (ℕ × Name)) (fs : List Fault) (tell : AllByRecursion (Tells all) fs) (ruled : list_all (λ (g : ℕ × Name). list_any (λ f. f.number == g.0) fs) all ≡ true) where
  lowest : (o : Option (ℕ × Name)) → IfSome o (IsLowestOf all) → IfSome o (λ g. IsLowest fs g.0 g.1)
  lowest None h = tt
  lowest (Some g) h =
      let rule = any_found (λ (f : Fault). f.number == g.0) fs (all_found (λ (f : ℕ × Name). list_any (λ h. h.number == f.0) fs) all ruled g h.stands) in
      let same = same_number rule.0.number g.0 rule.2 in
      record {
        stands = (rule.0, rule.1, same, (tells all fs tell rule.0 rule.1).stands g.1 (subst (λ n. Contains (words_of n all) g.1) (sym same) (has_word g.0 g.1 all h.stands)));
        lowest = λ m w s.
            let there = some (words_of s.0.number all) (λ none. has_none w (subst (λ ws. Contains ws w) ((tells all fs tell s.0 s.1).none none) s.3)) in
            let f = word_has s.0.number there.0 all there.1 in
            subst (λ k. g.0 ≤ k) (f.2 ∙ s.2) (h.lowest f.0 f.1);
      }
    where
      some : (words : List Name) → (words ≡ [] → ⊥) → (w : Name) × Contains words w
      some [] h = absurd (h refl)
      some (w ∷ words) h = (w, has_first w words)

  verdict : (r : Result (Unit {0}) LinkFault) → IsFound all r → Verdict fs r
  verdict (Ok v) h = none_stands all fs tell h
  verdict (Err e) h = lowest (fault_of e) h

-- ---- faults of actions

-- words of actions: of names that stand twice, where they are asked for, and those at places
abbrev words_in : Bool → (Place → List Name) → List Name → List ActionValue → List Name
words_in named words seen [] = []
words_in named words seen (a ∷ rest) = (cond named (word_if (is_in seen a.name) a.name) [] ++ flat_map words (action_places a)) ++ words_in named words (seen ++ a.name ∷ []) rest

words-actions : (n : ℕ) (sought : Place → List (ℕ × Name)) (seen : List Name) (acts : List ActionValue)
    → words_of n (action_faults sought seen acts) ≡ words_in (24 == n) (λ pl. words_of n (sought pl)) seen acts
words-actions n sought seen [] = refl
words-actions n sought seen (a ∷ rest) = rw (words-append, words-append, words-numbered, words-flat n sought (action_places a), words-actions n sought (seen ++ a.name ∷ []) rest) refl

words-places : (words : Place → List Name) (seen : List Name) (acts : List ActionValue) → words_in false words seen acts ≡ flat_map words (flat_map action_places acts)
words-places words seen [] = refl
words-places words seen (a ∷ rest) = simp (flat_map-append, words-places words (seen ++ a.name ∷ []) rest)

words-repeated : (seen : List Name) (acts : List ActionValue) → words_in true repeated_at seen acts ≡ repeated_in_actions seen acts
words-repeated seen [] = refl
words-repeated seen (a ∷ rest) = simp (words-repeated (seen ++ a.name ∷ []) rest)

abbrev no_words : {X : Type 0} → X → List Name
no_words x = []

flat_none : {X : Type 0} (xs : List X) → flat_map no_words xs ≡ []
flat_none [] = refl
flat_none (x ∷ xs) = flat_none xs

-- so the words of a number are computed
ruleset by_number = (words-append, words-numbered, words-flat, words-actions, words-places, words-repeated, flat_none, append-none, append_assoc)

-- ---- the rules, in the parts of a domain and a problem

-- the types of the variables of places
unknown-places : (ts : List TypeValue) (pls : List Place) → unknown_among ts (flat_map variables_at pls) ≡ flat_map (λ pl. unknown_among ts (variables_at pl)) pls
unknown-places ts [] = refl
unknown-places ts (pl ∷ pls) = simp (unknown-append, unknown-places ts pls)

-- what a domain declares comes before its places
unknown-declared : (ts : List TypeValue) (d : DomainValue)
    → unknown_among ts (domain_typed d) ≡ unknown_among ts (declared_typed d) ++ flat_map (λ pl. unknown_among ts (variables_at pl)) (domain_places d)
unknown-declared ts d = simp (append_assoc, unknown-append, unknown-places)

-- ---- verdicts

abbrev is_ruled : ℕ × Name → Bool
is_ruled f = list_any (λ r. r.number == f.0) part_rules

named_ruled : (words : List Name) → list_all is_ruled (numbered 24 words) ≡ true
named_ruled words = simp from_parts

places_ruled : (ts : List TypeValue) (s : Setting) (pls : List Place) → list_all is_ruled (flat_map (place_faults ts s) pls) ≡ true
places_ruled ts s pls = simp from_parts

actions_ruled : (ts : List TypeValue) (s : Setting) (seen : List Name) (acts : List ActionValue) → list_all is_ruled (action_faults (place_faults ts s) seen acts) ≡ true
actions_ruled ts s seen [] = refl
actions_ruled ts s seen (a ∷ rest) = rw (list_all-append, list_all-append, named_ruled, places_ruled ts s (action_places a)) (actions_ruled ts s (seen ++ a.name ∷ []) rest)

both : {P Q : Type 0} → P → Q → P × Q
both p q = (p, q)

module _ (d : DomainValue) (p : ProblemValue) where
  -- all that is found in a domain and a problem
  abbrev pub all_parts : List (ℕ × Name)
  all_parts = numbered 23 (unknown_among d.types (declared_typed d)) ++ (joined (domain_parts d) ++ joined (problem_parts d p))

  -- what is found where objects are told by the first of each name, and by all
  abbrev repeats : List Name → List Name → List Name
  repeats constants objects =
      (((constants ++ repeated [] (map symbol_of d.predicates)) ++ repeated [] (map symbol_of (function_signatures d))) ++ repeated_in_actions [] d.actions)
      ++ (objects ++ flat_map repeated_at (problem_places p))

  repeats_tell : words_of 24 all_parts ≡ repeats (off_types [] d.constants) (off_types d.constants p.objects) → Tells all_parts (record { number = 24; words = repeats (retyped [] d.constants) (retyped d.constants p.objects) })
  repeats_tell is = record {
    stands = λ w c.
        within_both _ _ _ _ w (within_both _ _ _ _ w (within_both _ _ _ _ w (within_both _ _ _ _ w (off_within [] d.constants w) (λ c. c)) (λ c. c)) (λ c. c))
        (within_both _ _ _ _ w (off_within d.constants p.objects w) (λ c. c)) (subst (λ ws. Contains ws w) is c);
    none = λ none. grind (arith, nil_parts, both_nil, none_retyped d.constants p.objects, sym is ∙ none);
  }

  -- where all that a domain declares is of known types
  pub parts_verdict : (r : Result (Unit {0}) LinkFault) → unknown_among d.types (declared_typed d) ≡ [] → IsFound (joined (domain_parts d) ++ joined (problem_parts d p)) r → Verdict (map (fault_in d p) part_rules) r
  parts_verdict r none h =
      verdict all_parts (map (fault_in d p) part_rules)
      (both (told all_parts 23 _ (simp (by_number, unknown-append, unknown-places))) (both (repeats_tell (simp by_number)) (both (told all_parts 25 _ (simp by_number))
      (both (told all_parts 26 _ (simp by_number)) (both (told all_parts 27 _ (simp by_number)) (both (told all_parts 28 _ (simp by_number)) (both (told all_parts 29 _ (simp by_number))
      (both (told all_parts 30 _ (simp by_number)) (both (told all_parts 31 _ (simp by_number)) (both (told all_parts 32 _ (simp by_number)) (both (told all_parts 33 _ (simp by_number)) tt)))))))))))
      (simp (from_parts, actions_ruled)) r
      (found_rest (numbered 23 (unknown_among d.types (declared_typed d))) (joined (domain_parts d) ++ joined (problem_parts d p)) r (ap (numbered 23) none) h)

  -- and where something is not
  pub stopped_verdict : (e : LinkFault) → Passes {T = Unit {0}} 23 (unknown_among d.types (declared_typed d)) (Err e) → Verdict {T = Unit {0}} (map (fault_in d p) part_rules) (Err e)
  stopped_verdict e h =
      found_at [] 23 (unknown_types d (domain_typed d) ++ unknown_types d (problem_typed p)) (map (fault_in d p) (drop 1 part_rules)) e tt refl
      (rw (unknown-declared d.types d, append_assoc) (pass_front 23 (unknown_among d.types (declared_typed d)) _ _ e refl h))
